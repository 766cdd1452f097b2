-- What building a place of a document, or a keyword of it, promises.
use Rattle.std.specs.Prelude.{◌≡◌, true, [], ◌∷◌, map, codes, Option, Some, None, option_to_list}
use Rattle.serde_json.specs.Data.{Data, object, string, Members}
use Rattle.olk_spec.specs.Names.{Text, Name, Path, ◌//◌}
use Rattle.olk_spec.specs.Schemas.{is_array}
use Rattle.olk_base.specs.Count.{Counts, count_compiled}
use Rattle.olk_base.specs.Kit.{Kit}
use Rattle.olk_reports.specs.declared.error.BuildError.{BuildError}
use Rattle.olk_tree.specs.Answers.{Answers, answered}
use Rattle.olk_tree.specs.Steps.{StepsOf}
use Rattle.olk_build.specs.Building.{IsBuilt, RefusesSchema}
use Rattle.olk_build.specs.Refusing.{TellsOneOf, Spends, Refuses}
use Rattle.olk_documents.specs.Nodes.{answers, more_of}
use Rattle.olk_documents.specs.declared.node.DocumentKeyword.{DocumentKeyword}
use Rattle.olk_documents.specs.declared.node.DocumentNode.{DocumentNode}
use Rattle.olk_document_spec.specs.Keywords.{bound, other, document_keyword}
use Rattle.olk_document_spec.specs.Malformed.{document_refusals}
use Rattle.olk_document_meaning.specs.Places.{Referred}
use Rattle.olk_document_meaning.specs.Rows.{row_malformations, row_cost}
use Rattle.olk_document_build.specs.Own.{OwnMean}
use Rattle.olk_document_build.specs.Reading.{skipped, bound_of, least_of}
use Rattle.olk_document_build.specs.Targets.{target_of, TargetsStand}
use Rattle.olk_document_build.specs.declared.own.OwnShape.{OwnShape}
use Rattle.olk_document_build.specs.declared.own.OwnShape.TheVariants as shape
use Rattle.olk_document_build.specs.declared.targets.Targets.{Targets}

-- ---- an object, whose place was counted before

module _ {K R : Type 0} {o : Kit K R} (I : StepsOf o) where
  abbrev pub ObjectIsBuilt : {N : Type 0} → (N → Answers) → N → Members → Path → Counts → Counts → Type 0
  ObjectIsBuilt answers n ms P m new = (old : Counts) → m ≡ count_compiled old → IsBuilt I answers n (object ms) P old new

  abbrev pub RefusesObject : Members → Path → Counts → Counts → BuildError → Type 0
  RefusesObject ms P m new e = (old : Counts) → m ≡ count_compiled old → RefusesSchema I (object ms) P old new e

-- ---- a keyword of the document, of the name k and the value d, in the object with the members ms, where texts name these targets

module _ {K R : Type 0} (T : Targets K R) where
  -- it is of this shape
  abbrev pub IsOwnShape : Members → Name → Data → OwnShape K R → Type 0
  IsOwnShape ms k d shape.PrefixItems = (k ≡ codes "prefixItems") × (is_array d ≡ true)
  IsOwnShape ms k d (shape.Items skip) = (k ≡ codes "items") × (skip ≡ skipped ms)
  IsOwnShape ms k d (shape.Contains b) = (k ≡ codes "contains") × (b.least ≡ least_of ms) × (option_to_list b.most ≡ bound_of ms (codes "maxContains"))
  IsOwnShape ms k d (shape.Reference n) = (k ≡ codes "$ref") × (t : Text) × (d ≡ string t) × (target_of T t ≡ Some n.value)
  IsOwnShape ms k d shape.Bound = document_keyword k ≡ bound

module _ {K R : Type 0} (o : Kit K R) (T : Targets K R) where
  -- at its place L: nothing is wrong with it itself; or it is the layer's
  abbrev pub IsOwn : Members → Name → Data → Path → Option (OwnShape K R) → Type 0
  IsOwn ms k d L None = document_keyword k ≡ other
  IsOwn ms k d L (Some x) = IsOwnShape T ms k d x × ((F : Referred) → TargetsStand o F T → document_refusals F.refuses k d L (document_keyword k) ≡ [])

  abbrev pub RefusesOwnValue : Name → Data → Path → BuildError → Type 0
  RefusesOwnValue k d L e = (F : Referred) → TargetsStand o F T → TellsOneOf (document_refusals F.refuses k d L (document_keyword k)) e

module _ {K R : Type 0} (o : Kit K R) (F : Referred) where
  -- what is made of its value at P
  pub record OwnIsMade (r : Option (DocumentKeyword (DocumentNode K R))) (ms : Members) (m : Name × Data) (P : Path) (old new : Counts) : Type 0 where
    pub means : OwnMean o F ms (map (λ k. answered (answers o) (more_of k)) (option_to_list r)) (m ∷ []) P
    pub clean : document_refusals F.refuses m.0 m.1 (P // m.0) (document_keyword m.0) ≡ [] → row_malformations o.world F ms m P ≡ []
    pub spends : Spends old new (row_cost o.world F ms m)

module _ {K R : Type 0} (o : Kit K R) (T : Targets K R) where
  -- at its place L, in each object where it has this shape
  abbrev pub OwnIsBuilt : OwnShape K R → Data → Path → Counts → Counts → Option (DocumentKeyword (DocumentNode K R)) → Type 0
  OwnIsBuilt x d L old new r = (F : Referred) → TargetsStand o F T → (ms : Members) (k : Name) (P : Path) → L ≡ P // k → IsOwnShape T ms k d x → OwnIsMade o F r ms (k, d) P old new

  abbrev pub RefusesOwn : OwnShape K R → Data → Path → Counts → Counts → BuildError → Type 0
  RefusesOwn x d L old new e = (F : Referred) → TargetsStand o F T → (ms : Members) (k : Name) (P : Path) → L ≡ P // k → IsOwnShape T ms k d x
      → Refuses (row_malformations o.world F ms (k, d) P) (row_cost o.world F ms (k, d)) old new e
