-- A keyword of a document as it is made: it means what its member does, nothing is wrong with it and the places inside, and these are paid.
use Rattle.std.proofs.Common.{◌≡◌, List, [], ◌∷◌, ◌++◌, map, Option, Some, None, option_to_list, refl, sym, ◌∙◌, ap, subst, append-nil}
use Rattle.std.specs.List.{flat_map}
use Rattle.std.specs.declared.alloc.AllocError.{AllocError}
use Rattle.serde_json.specs.Data.{Data, Members}
use Rattle.olk_spec.specs.Names.{Name, Path, ◌//◌, down}
use Rattle.olk_spec.specs.Costs.{total_cost}
use Rattle.olk_spec.specs.Malformed.{items_of_array, each}
use Rattle.olk_spec.specs.Schemas.{read, numbered}
use Rattle.olk_spec.proofs.CostSums.{sum_last}
use Rattle.olk_spec.proofs.Reading.{schema_of_read}
use Rattle.olk_base.specs.Count.{Counts}
use Rattle.olk_base.specs.Kit.{Kit}
use Rattle.olk_reports.specs.declared.error.BuildError.{BuildError}
use Rattle.olk_reports.specs.declared.error.BuildError.TheVariants.{Memory}
use Rattle.olk_meaning.specs.Steps.{malformations_at, cost}
use Rattle.olk_meaning.proofs.Facts.{branch_entries, each_malformations, each_costs}
use Rattle.olk_tree.specs.Answers.{answered}
use Rattle.olk_tree.specs.Steps.{StepsOf, StandsBy}
use Rattle.olk_build.specs.Building.{IsBuilt, PlacesAreBuilt, RefusesPlaces, places_malformed, places_cost}
use Rattle.olk_build.specs.Refusing.{Refuses}
use Rattle.olk_build.specs.Standing.{StandAt}
use Rattle.olk_build.specs.declared.shape.ReadPlaces.{ReadPlaces}
use Rattle.olk_build.specs.declared.shape.ReadPlaces.TheVariants.{Nothing, Itself, Branches}
use Rattle.olk_build.proofs.Built.{itself_is_built, none_are_built}
use Rattle.olk_build.proofs.Spending.{spends_same, within_same, within_nothing, tells_same, tells_right, refuses_memory}
use Rattle.olk_document_spec.specs.Keywords.{Document_keyword, prefix_items, items, contains, document_keyword}
use Rattle.olk_document_spec.specs.Malformed.{document_places, document_refusals}
use Rattle.olk_documents.specs.Nodes.{answers, more_of}
use Rattle.olk_documents.specs.declared.arrays.Items.{Items}
use Rattle.olk_documents.specs.declared.arrays.PrefixItems.{PrefixItems}
use Rattle.olk_documents.specs.declared.contains.Contains.{Contains}
use Rattle.olk_documents.specs.declared.node.DocumentKeyword.{DocumentKeyword}
use Rattle.olk_documents.specs.declared.node.DocumentKeyword.TheVariants as keyword
use Rattle.olk_documents.specs.declared.node.DocumentNode.{DocumentNode}
use Rattle.olk_documents.specs.declared.reference.Reference.{Reference}
use Rattle.olk_document_meaning.specs.Places.{Referred}
use Rattle.olk_document_meaning.specs.Rows.{row_malformations, row_cost}
use Rattle.olk_document_build.specs.Building.{IsOwnShape, OwnIsMade, OwnIsBuilt, RefusesOwn}
use Rattle.olk_document_build.specs.Kits.{document_of}
use Rattle.olk_document_build.specs.Own.{OwnMean}
use Rattle.olk_document_build.specs.Targets.{StandsUnder, TargetsStand}
use Rattle.olk_document_build.specs.declared.own.OwnShape.{OwnShape}
use Rattle.olk_document_build.specs.declared.own.OwnShape.TheVariants as shape
use Rattle.olk_document_build.specs.declared.targets.Targets.{Targets}
use Rattle.olk_document_build.proofs.Nodes.{is_silent, silent_means}
use Rattle.olk_document_build.proofs.OwnKeywords.{prefix_items_mean, items_mean, contains_mean}
use Rattle.olk_document_build.proofs.ReferenceKeyword.{reference_means}

-- ---- the places that a keyword of a document reads in its value

abbrev pub reads_own : Document_keyword → ReadPlaces
reads_own prefix_items = Branches
reads_own items = Itself
reads_own contains = Itself
reads_own w = Nothing

module _ {K R : Type 0} (o : Kit K R) (F : Referred) (d : Data) (k : Name) where
  abbrev I : StepsOf o
  I = document_of o F

  wrong_inside : (P : Path) (w : Document_keyword) → flat_map (λ r. r.0.answer (down P r.1)) (document_places k (read I.steps.refuses d) w) ≡ places_malformed I (reads_own w) d (P // k)
  unfolding malformations_at
  wrong_inside P prefix_items = ap (λ es. flat_map (λ r. r.0.answer (down P r.1)) (each k es)) (branch_entries I.steps.refuses d) ∙ each_malformations I.steps k P (numbered (items_of_array d))
  wrong_inside P items = append-nil _
  wrong_inside P contains = append-nil _
  wrong_inside P _ = refl

  cost_inside : (w : Document_keyword) → total_cost (λ r. r.0.answer) (document_places k (read I.steps.costs d) w) ≡ places_cost I (reads_own w) d
  unfolding cost
  cost_inside prefix_items = ap (λ es. total_cost (λ r. r.0.answer) (each k es)) (branch_entries I.steps.costs d) ∙ each_costs I.steps k (numbered (items_of_array d))
  cost_inside items = sum_last _
  cost_inside contains = sum_last _
  cost_inside _ = refl

  module _ (ms : Members) (P : Path) where
    row_wrong : row_malformations o.world F ms (k, d) P ≡ document_refusals F.refuses k d (P // k) (document_keyword k) ++ places_malformed I (reads_own (document_keyword k)) d (P // k)
    row_wrong = λ i. document_refusals F.refuses k (schema_of_read I.steps.refuses d i) (P // k) (document_keyword k) ++ wrong_inside P (document_keyword k) i

    row_costs : row_cost o.world F ms (k, d) ≡ places_cost I (reads_own (document_keyword k)) d
    row_costs = cost_inside (document_keyword k)

    -- the places inside are built, or one of them is refused
    module _ {w : ReadPlaces} (reads : reads_own (document_keyword k) ≡ w) {a b : Counts} where
      row_made : {r : Option (DocumentKeyword (DocumentNode K R))} {ns : List (DocumentNode K R)} → OwnMean o F ms (map (λ x. answered (answers o) (more_of x)) (option_to_list r)) ((k, d) ∷ []) P
          → PlacesAreBuilt I (answers o) w ns d (P // k) a b → OwnIsMade o F r ms (k, d) P a b
      row_made means built = record {
        means = means;
        clean = λ e. row_wrong ∙ (λ i. e i ++ places_malformed I (reads i) d (P // k)) ∙ built.clean;
        spends = spends_same a b _ _ (sym (row_costs ∙ ap (λ x. places_cost I x d) reads)) built.spends;
      }

      row_refused : {e : BuildError} → RefusesPlaces I w d (P // k) a b e → Refuses (row_malformations o.world F ms (k, d) P) (row_cost o.world F ms (k, d)) a b e
      row_refused {e} r = record {
        tells = tells_same (sym (row_wrong ∙ ap (λ x. document_refusals F.refuses k d (P // k) (document_keyword k) ++ places_malformed I x d (P // k)) reads)) e (tells_right _ _ e r.tells);
        spends = within_same (sym (row_costs ∙ ap (λ x. places_cost I x d) reads)) r.spends;
      }

-- ---- by the shape that is read of it

abbrev pub reads_of_shape : {K R : Type 0} → OwnShape K R → ReadPlaces
reads_of_shape shape.PrefixItems = Branches
reads_of_shape (shape.Items skip) = Itself
reads_of_shape (shape.Contains b) = Itself
reads_of_shape x = Nothing

module _ {K R : Type 0} (T : Targets K R) (ms : Members) (n : Name) (d : Data) where
  shape_reads : (x : OwnShape K R) → IsOwnShape T ms n d x → reads_own (document_keyword n) ≡ reads_of_shape x
  shape_reads shape.PrefixItems is = ap (λ k. reads_own (document_keyword k)) is.0
  shape_reads (shape.Items skip) is = ap (λ k. reads_own (document_keyword k)) is.0
  shape_reads (shape.Contains b) is = ap (λ k. reads_own (document_keyword k)) is.0
  shape_reads (shape.Reference t) is = ap (λ k. reads_own (document_keyword k)) is.0
  shape_reads shape.Bound is = ap reads_own is

below_name : {L : Path} {n k : Name} (P : Path) → L ≡ P // n → n ≡ k → L ≡ P // k
below_name P place named = place ∙ ap (λ m. P // m) named

module _ {K R : Type 0} (o : Kit K R) (T : Targets K R) (d : Data) where
  -- with these nodes it means what the member does in each object where it has this shape
  abbrev MeansRow : OwnShape K R → List (DocumentNode K R) → Path → Option (DocumentKeyword (DocumentNode K R)) → Type 0
  MeansRow x ns L r = (F : Referred) → TargetsStand o F T → (ms : Members) (n : Name) (P : Path) → L ≡ P // n → IsOwnShape T ms n d x → StandAt (document_of o F) (answers o) (reads_of_shape x) ns d L
      → OwnMean o F ms (map (λ k. answered (answers o) (more_of k)) (option_to_list r)) ((n, d) ∷ []) P

  module _ {L M : Path} (same : M ≡ L) {a b : Counts} where
    own_is_built : (x : OwnShape K R) (r : Option (DocumentKeyword (DocumentNode K R))) (ns : List (DocumentNode K R)) → MeansRow x ns L r
        → ((F : Referred) → TargetsStand o F T → PlacesAreBuilt (document_of o F) (answers o) (reads_of_shape x) ns d M a b) → OwnIsBuilt o T x d L a b r
    own_is_built x r ns means built F s ms n P place is =
        let here : PlacesAreBuilt (document_of o F) (answers o) (reads_of_shape x) ns d L a b = subst (λ l. PlacesAreBuilt (document_of o F) (answers o) (reads_of_shape x) ns d l a b) same (built F s) in
        row_made o F d n ms P (shape_reads T ms n d x is) (means F s ms n P place is here.stand)
        (subst (λ l. PlacesAreBuilt (document_of o F) (answers o) (reads_of_shape x) ns d l a b) place here)

    pub own_refused : (x : OwnShape K R) {e : BuildError} → ((F : Referred) → TargetsStand o F T → RefusesPlaces (document_of o F) (reads_of_shape x) d M a b e) → RefusesOwn o T x d L a b e
    own_refused x {e} refused F s ms n P place is =
        row_refused o F d n ms P (shape_reads T ms n d x is) (subst (λ l. RefusesPlaces (document_of o F) (reads_of_shape x) d l a b e) (same ∙ place) (refused F s))

  -- memory is wanted before anything inside is built
  pub own_memory : (x : OwnShape K R) {L : Path} {a : Counts} {w : AllocError} (e : BuildError) → e ≡ Memory w → RefusesOwn o T x d L a a e
  own_memory x e q F s ms n P place is = refuses_memory within_nothing e q

  -- ---- each keyword

  prefix_items_row : (k : PrefixItems (DocumentNode K R)) → MeansRow shape.PrefixItems k.schemas.items k.location (Some (keyword.PrefixItems k))
  unfolding more_of
  prefix_items_row k F s ms n P place is h =
      let there = below_name P place is.0 in
      rw is.0 (prefix_items_mean o F (answers o) ms d P k there (subst (StandAt (document_of o F) (answers o) Branches k.schemas.items d) there h))

  pub prefix_items_built : {a b : Counts} (k : PrefixItems (DocumentNode K R))
      → ((F : Referred) → TargetsStand o F T → PlacesAreBuilt (document_of o F) (answers o) Branches k.schemas.items d k.location a b)
      → OwnIsBuilt o T shape.PrefixItems d k.location a b (Some (keyword.PrefixItems k))
  prefix_items_built k built = own_is_built refl shape.PrefixItems (Some (keyword.PrefixItems k)) k.schemas.items (prefix_items_row k) built

  items_row : (k : Items (DocumentNode K R)) → MeansRow (shape.Items k.skip) (k.node ∷ []) k.location (Some (keyword.Items k))
  unfolding more_of
  items_row k F s ms n P place is h =
      let there = below_name P place is.0 in
      rw is.0 (items_mean o F (answers o) ms d P k there is.1 (subst (StandsBy (document_of o F) (answers o) k.node d) there h))

  pub items_built : {M : Path} {a b : Counts} (k : Items (DocumentNode K R)) → M ≡ k.location → ((F : Referred) → TargetsStand o F T → IsBuilt (document_of o F) (answers o) k.node d M a b)
      → OwnIsBuilt o T (shape.Items k.skip) d k.location a b (Some (keyword.Items k))
  items_built k same built = own_is_built same (shape.Items k.skip) (Some (keyword.Items k)) (k.node ∷ []) (items_row k) (λ F s. itself_is_built (built F s))

  contains_row : (k : Contains (DocumentNode K R)) → MeansRow (shape.Contains k.bounds) (k.node ∷ []) k.location (Some (keyword.Contains k))
  unfolding more_of
  contains_row k F s ms n P place is h =
      let there = below_name P place is.0 in
      rw is.0 (contains_mean o F (answers o) ms d P k there is.1 is.2 (subst (StandsBy (document_of o F) (answers o) k.node d) there h))

  pub contains_built : {M : Path} {a b : Counts} (k : Contains (DocumentNode K R)) → M ≡ k.location → ((F : Referred) → TargetsStand o F T → IsBuilt (document_of o F) (answers o) k.node d M a b)
      → OwnIsBuilt o T (shape.Contains k.bounds) d k.location a b (Some (keyword.Contains k))
  contains_built k same built = own_is_built same (shape.Contains k.bounds) (Some (keyword.Contains k)) (k.node ∷ []) (contains_row k) (λ F s. itself_is_built (built F s))

  reference_row : (k : Reference (DocumentNode K R)) → MeansRow (shape.Reference k.target) [] k.location (Some (keyword.Reference k))
  unfolding more_of
  reference_row k F s ms n P place is h =
      rw is.0 (reference_means (subst (StandsUnder o F is.1) is.3 (s is.1)) ms P k is.2 refl (below_name P place is.0))

  pub reference_built : {a : Counts} (k : Reference (DocumentNode K R)) → OwnIsBuilt o T (shape.Reference k.target) d k.location a a (Some (keyword.Reference k))
  reference_built k = own_is_built refl (shape.Reference k.target) (Some (keyword.Reference k)) [] (reference_row k) (λ F s. none_are_built Nothing tt)

  bound_row : (L : Path) → MeansRow shape.Bound [] L None
  bound_row L F s ms n P place is h = silent_means o F ms P (n, d) (ap is_silent is)

  pub bound_built : {L : Path} {a : Counts} → OwnIsBuilt o T shape.Bound d L a a None
  bound_built {L} = own_is_built refl shape.Bound None [] (bound_row L) (λ F s. none_are_built Nothing tt)
