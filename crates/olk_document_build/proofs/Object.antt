-- A schema object of a document, member by member: what the layer reads is built over the object without the document's own members, and beside it what the document reads; what both count adds up.
use Rattle.std.proofs.Common.{◌≡◌, Bool, true, false, not, List, [], ◌∷◌, ◌++◌, map, Option, option_to_list, is_some, refl, sym, ◌∙◌, ap, subst, true≢false, append-nil, alloc_error, Some, String, Global, Vec, string_bytes}
use Rattle.std.specs.List.{flat_map}
use Rattle.std.specs.declared.alloc.AllocError.{AllocError}
use Rattle.std.proofs.lemmas.List.{map-append}
use Rattle.serde_json.specs.Data.{Data, object, Members}
use Rattle.serde_json.specs.View.{view, members_view}
use Rattle.serde_json.specs.declared.value.Value.{Value}
use Rattle.olk_spec.specs.Names.{Name, Path, ◌//◌, put_if}
use Rattle.olk_spec.specs.Costs.{Cost, no_cost, one_place, total_cost, ◌⊕◌}
use Rattle.olk_spec.specs.Faults.{Fault}
use Rattle.olk_spec.specs.Malformed.{has_repeat}
use Rattle.olk_spec.specs.Schemas.{listed}
use Rattle.olk_spec.proofs.CostSums.{sum_around, sum_turned}
use Rattle.olk_spec.proofs.Reading.{schema_of_read}
use Rattle.olk_base.specs.Count.{Counts, raised_by, count_compiled}
use Rattle.olk_base.specs.Kit.{Kit}
use Rattle.olk_base.proofs.CountLemmas.{raised_by_sum}
use Rattle.olk_reports.specs.declared.error.BuildError.{BuildError}
use Rattle.olk_reports.specs.declared.error.BuildError.TheVariants.{Memory}
use Rattle.olk_meaning.specs.Conditions.{Known, known_of}
use Rattle.olk_meaning.specs.Plans.{Planned, plan_of}
use Rattle.olk_meaning.specs.Steps.{cost}
use Rattle.olk_tree.specs.Steps.{StepsOf}
use Rattle.olk_tree.specs.declared.node.Body.TheVariants.{Keywords}
use Rattle.olk_tree.specs.declared.node.KeywordOver.{KeywordOver}
use Rattle.olk_build.specs.Building.{IsMember, IsPart, RefusesPart, all_cost, ObjectIsBuilt as LayerIsBuilt, RefusesObject as LayerRefuses}
use Rattle.olk_build.specs.Refusing.{counted, Spends, SpendsWithin, Refuses}
use Rattle.olk_build.specs.Standing.{is_taken}
use Rattle.olk_build.specs.Taking.{takes_of, rows_read, RefusesTaken, IsTaken, AppendsTaking, AppendsAlone, MemberIsBuilt, RefusesMember}
use Rattle.olk_build.specs.declared.part.Part.{Part as BuiltPart}
use Rattle.olk_build.specs.declared.part.TakenNeighbours.{TakenNeighbours}
use Rattle.olk_build.proofs.Member.{KeywordsSoFar, no_keywords_so_far, keywords_memory, object_is_built, next_found, next_taken, next_refused, one_more, part_refused, taken_refused, read_memory, member_built, taken_built, alone_memory, alone_built}
use Rattle.olk_build.proofs.Spending.{SoFar, none_so_far, all_so_far, memory_so_far, refused_so_far, one_more_so_far, spends_append, spends_nothing, spends_same, spends_place, within_after, within_exactly, within_nothing, within_same, refuses_memory, tells, tells_left, tells_same}
use Rattle.olk_build.proofs.ReadEntries.{listed_alike}
use Rattle.olk_build.proofs.TakenParts.{within_append}
use Rattle.olk_documents.specs.Nodes.{answers}
use Rattle.olk_documents.specs.declared.node.DocumentKeyword.{DocumentKeyword}
use Rattle.olk_documents.specs.declared.node.DocumentNode.{DocumentNode, out-DocumentNode}
use Rattle.olk_documents.proofs.Layers.{own_answers}
use Rattle.olk_document_spec.specs.Keywords.{Document_keyword, other, document_keyword, is_other, is_other_keyword}
use Rattle.olk_document_meaning.specs.Layers.{others, owns, layer_members}
use Rattle.olk_document_spec.specs.Malformed.{document_refusals}
use Rattle.olk_document_meaning.specs.Places.{Referred}
use Rattle.olk_document_meaning.specs.Rows.{row_malformations, row_cost}
use Rattle.olk_document_meaning.proofs.Malformed_objects.{layer_told, own_told, object_clean}
use Rattle.olk_document_meaning.proofs.Objects.{object_cost}
use Rattle.olk_document_meaning.proofs.Others.{others_listed}
use Rattle.olk_document_meaning.proofs.Plans.{layer_distinct, same_plan, same_known}
use Rattle.olk_document_build.specs.Building.{ObjectIsBuilt, RefusesObject, IsOwnShape, IsOwn, RefusesOwnValue, OwnIsMade, OwnIsBuilt, RefusesOwn}
use Rattle.olk_document_build.specs.Kits.{document_of}
use Rattle.olk_document_build.specs.Own.{OwnMean}
use Rattle.olk_document_build.specs.Targets.{TargetsStand}
use Rattle.olk_document_build.specs.declared.own.OwnShape.{OwnShape}
use Rattle.olk_document_build.specs.declared.own.OwnShape.TheVariants as shape
use Rattle.olk_document_build.specs.declared.targets.Targets.{Targets}
use Rattle.olk_document_build.proofs.Beside.{node_beside, layer_means}
use Rattle.olk_document_build.proofs.Nodes.{document_stands, none_mean, both_mean, is_silent, silent_means}

-- ---- which members the layer reads

named_other : (w : Document_keyword) → is_other_keyword w ≡ true → w ≡ other
named_other other e = refl
named_other w e = absurd (true≢false (sym e))

module _ {X : Type 0} {left rest : List (Name × X)} {m : Name × X} (next : left ≡ m ∷ rest) where
  first_of_others : is_other m.0 ≡ true → others left ≡ m ∷ others rest
  first_of_others e = ap others next ∙ ap (λ b. put_if b m (others rest)) e

  past_an_own : is_other m.0 ≡ false → others left ≡ others rest
  past_an_own e = ap others next ∙ ap (λ b. put_if b m (others rest)) e

-- the next entry is a member of this name
pub next_entry : {left rest : List (String Global × Value)} {n : String Global} {v : Value} {k : Name} → left ≡ (n, v) ∷ rest → k ≡ string_bytes n → listed (members_view left) ≡ (k, view v) ∷ listed (members_view rest)
next_entry {rest = rest} {v = v} steps same = listed_alike steps ∙ ap (λ k. (k, view v) ∷ listed (members_view rest)) (sym same)

-- where the others give nothing, all members give what the document's own do
flat_map-owns : {X Y : Type 0} (f : Name × X → List Y) → ((m : Name × X) → is_other m.0 ≡ true → f m ≡ []) → (ms : List (Name × X)) → flat_map f ms ≡ flat_map f (owns ms)
flat_map-owns f none [] = refl
flat_map-owns f none (m ∷ ms) = by (is_other m.0) refl (flat_map-owns f none ms)
  where
    by : (b : Bool) → is_other m.0 ≡ b → flat_map f ms ≡ flat_map f (owns ms) → f m ++ flat_map f ms ≡ flat_map f (put_if (not b) m (owns ms))
    by true e h = λ i. none m e i ++ h i
    by false e h = ap (λ l. f m ++ l) h

-- one of a shape is the document's own
module _ {K R : Type 0} (T : Targets K R) (ms : Members) (k : Name) (d : Data) where
  is_an_own : (x : OwnShape K R) → IsOwnShape T ms k d x → is_other k ≡ false
  is_an_own shape.PrefixItems h = ap is_other h.0
  is_an_own (shape.Items skip) h = ap is_other h.0
  is_an_own (shape.Contains bounds) h = ap is_other h.0
  is_an_own (shape.Reference target) h = ap is_other h.0
  is_an_own shape.Bound h = ap is_other_keyword h

-- ---- what is counted later may as well be counted before

module _ (a b c : Counts) (x y : Cost) where
  spends_before : Spends a b y → Spends b c x → Spends (raised_by a (counted x)) c y
  spends_before h k = spends_append a b c y x h k ∙ ap (λ z. raised_by a (counted z)) (sum_turned y x) ∙ sym (raised_by_sum a (counted x) (counted y))

module _ {X N : Type 0} {wrong : X → List Fault} {costs : X → Cost} {Stand : List N → List X → Type 0} {all : List X} {a b c : Counts} {ns : List N} {left : List X} (x : Cost) where
  so_far_behind : SoFar wrong costs Stand all a ns left b → Spends b c x → SoFar wrong costs Stand all (raised_by a (counted x)) ns left c
  so_far_behind h k = record {
    done = h.done;
    built = record { stand = h.built.stand; clean = h.built.clean; spends = spends_before a b c x _ h.built.spends k };
    whole = h.whole;
  }

-- ---- what is told of either part, and counted for both

module _ {K R : Type 0} (o : Kit K R) (F : Referred) (ms : Members) (P : Path) where
  abbrev I : StepsOf o
  I = document_of o F

  abbrev ls : Members
  ls = layer_members ms

  abbrev pub own_wrong : Name × Data → List Fault
  own_wrong m = row_malformations o.world F ms m P

  abbrev pub own_cost : Name × Data → Cost
  own_cost m = row_cost o.world F ms m

  -- a member of the layer
  module _ (m : Name × Data) (layers : document_keyword m.0 ≡ other) where
    layers_right : own_wrong m ≡ []
    layers_right = rw layers refl

    layers_cost : own_cost m ≡ no_cost
    layers_cost = rw layers refl

  among_owns : flat_map own_wrong (listed ms) ≡ flat_map own_wrong (owns (listed ms))
  among_owns = flat_map-owns own_wrong (λ m e. layers_right m (named_other (document_keyword m.0) e)) (listed ms)

  module _ {a mid b : Counts} where
    -- what is counted for both parts, behind the place itself
    both_within : {old : Counts} → a ≡ count_compiled old → SpendsWithin a mid (all_cost I ls (listed ls)) → SpendsWithin mid b (total_cost own_cost (listed ms)) → SpendsWithin old b (cost I.steps (object ms))
    both_within {old} c h k = within_same (sym (sum_around one_place _ _) ∙ sym (object_cost o.world F ms)) (within_after old a b one_place _ (spends_place old a c) (within_append h k))

    layer_refused : {e : BuildError} → LayerRefuses I ls P a mid e → SpendsWithin mid b (total_cost own_cost (listed ms)) → RefusesObject I ms P a b e
    layer_refused {e} r k = λ old c. record { tells = tells _ _ (layer_told o.world F ms P) e r.tells; spends = both_within c r.spends k }

    own_refused : {e : BuildError} → SpendsWithin a mid (all_cost I ls (listed ls)) → Refuses (flat_map own_wrong (listed ms)) (total_cost own_cost (listed ms)) mid b e → RefusesObject I ms P a b e
    own_refused {e} h r = λ old c. record { tells = tells _ _ (own_told o.world F ms P) e (tells_same among_owns e r.tells); spends = both_within c h r.spends }

module _ {K R : Type 0} (o : Kit K R) (F : Referred) (ms : Members) (P : Path) {a : Counts} where
  -- memory is wanted before the first member
  pub nothing_refused : {w : AllocError} (e : BuildError) → e ≡ Memory w → RefusesObject (document_of o F) ms P a a e
  nothing_refused e r = λ old c. refuses_memory (both_within o F ms P c within_nothing within_nothing) e r

-- ---- member by member

module _ {K R : Type 0} (o : Kit K R) (F : Referred) (ms : Members) (P : Path) where
  -- the document's own keywords mean what the members so far do
  abbrev pub OwnSoFar : Counts → List (DocumentKeyword (DocumentNode K R)) → List (Name × Data) → Counts → Type 0
  OwnSoFar a more left b = SoFar (own_wrong o F ms P) (own_cost o F ms P) (λ ks rows. OwnMean o F ms (map (own_answers o) ks) rows P) (listed ms) a more left b

  -- both parts so far, as if the layer's members were counted first
  pub record ObjectSoFar (q : Planned) (a : Counts) (ks : List (KeywordOver K R (DocumentNode K R))) (more : List (DocumentKeyword (DocumentNode K R))) (left : List (Name × Data)) (b : Counts) : Type 0 where
    pub between : Counts
    pub layer : KeywordsSoFar (document_of o F) (answers o) (layer_members ms) P q a ks (others left) between
    pub own : OwnSoFar between more left b

module _ {K R : Type 0} {o : Kit K R} {F : Referred} {ms : Members} {P : Path} {q : Planned} {a : Counts} where
  pub nothing_so_far : {ks : List (KeywordOver K R (DocumentNode K R))} {more : List (DocumentKeyword (DocumentNode K R))} {all : List (Name × Data)}
      → q ≡ plan_of ms → has_repeat (map (λ m. m.0) (listed ms)) ≡ false → ks ≡ [] → more ≡ [] → all ≡ listed ms → ObjectSoFar o F ms P q a ks more all a
  nothing_so_far plan distinct none no_more whole = record {
    between = a;
    layer = no_keywords_so_far (plan ∙ sym (same_plan ms)) (layer_distinct ms distinct) none (ap others whole ∙ sym (others_listed ms));
    own = none_so_far (subst (λ ks. OwnMean o F ms (map (own_answers o) ks) [] P) (sym no_more) (none_mean o F ms P)) whole;
  }

  module _ {ks : List (KeywordOver K R (DocumentNode K R))} {more : List (DocumentKeyword (DocumentNode K R))} {left : List (Name × Data)} {b : Counts} (h : ObjectSoFar o F ms P q a ks more left b) where
    layer_within : SpendsWithin a h.between (all_cost (document_of o F) (layer_members ms) (listed (layer_members ms)))
    layer_within = (keywords_memory h.layer (Memory alloc_error) refl).spends

    own_within : SpendsWithin h.between b (total_cost (own_cost o F ms P) (listed ms))
    own_within = (memory_so_far h.own (Memory alloc_error) refl).spends

    pub object_memory : {w : AllocError} (e : BuildError) → e ≡ Memory w → RefusesObject (document_of o F) ms P a b e
    object_memory e r = layer_refused o F ms P (keywords_memory h.layer e r) own_within

    -- all members are gone through, and the node answers what both parts do
    pub document_is_built : (n : DocumentNode K R) (keywords : Vec (KeywordOver K R (DocumentNode K R)) Global) → (out-DocumentNode K R n).location ≡ P → (out-DocumentNode K R n).body ≡ Keywords keywords
        → (out-DocumentNode K R n).more.items ≡ more → keywords.items ≡ ks → left ≡ [] → ObjectIsBuilt (document_of o F) (answers o) n ms P a b
    document_is_built n keywords place body own layers e =
        let built = object_is_built h.layer (ap others e) in
        let all = all_so_far h.own e in
        λ old c. record {
          stands = document_stands o F ms (answers o) (node_beside o n place body own)
              (layer_means o F ms keywords (subst (λ l. LayerIsBuilt (document_of o F) (layer_members ms) (answers o) l P a h.between) (sym layers) built)) all.stand;
          clean = object_clean o.world F ms P built.clean (sym (among_owns o F ms P) ∙ all.clean);
          spends = spends_same old b _ _ (sym (object_cost o.world F ms))
              (spends_append old h.between b _ _ (spends_append old a h.between one_place _ (spends_place old a c) built.spends) all.spends);
        }

    -- the next member
    module _ {m : Name × Data} {next : List (Name × Data)} (here : left ≡ m ∷ next) where
      -- it is refused as one of the document's own
      own_member_refused : {c : Counts} {e : BuildError} → Refuses (own_wrong o F ms P m) (own_cost o F ms P m) b c e → RefusesObject (document_of o F) ms P a c e
      own_member_refused r = own_refused o F ms P layer_within (refused_so_far h.own here r)

      module _ (T : Targets K R) (stand : TargetsStand o F T) {L : Path} (place : L ≡ P // m.0) where
        pub object_value_refused : {e : BuildError} → RefusesOwnValue o T m.0 m.1 L e → RefusesObject (document_of o F) ms P a b e
        object_value_refused {e} r = own_member_refused (record {
          tells = tells_left _ _ e
              (tells_same (λ i. document_refusals F.refuses m.0 (sym (schema_of_read (document_of o F).steps.refuses m.1) i) (place i) (document_keyword m.0)) e (r F stand));
          spends = within_nothing;
        })

        -- it is of a shape of these
        module _ (x : OwnShape K R) (own : IsOwn o T ms m.0 m.1 L (Some x)) where
          pub object_own_refused : {c : Counts} {e : BuildError} → RefusesOwn o T x m.1 L b c e → RefusesObject (document_of o F) ms P a c e
          object_own_refused r = own_member_refused (r F stand ms m.0 P place own.0)

          module _ {c : Counts} {r : Option (DocumentKeyword (DocumentNode K R))} (built : OwnIsBuilt o T x m.1 L b c r) where
            made : OwnIsMade o F r ms m P b c
            made = built F stand ms m.0 P place own.0

            pub object_own_memory : {w : AllocError} (e : BuildError) → e ≡ Memory w → RefusesObject (document_of o F) ms P a c e
            object_own_memory e z = own_member_refused (refuses_memory (within_exactly made.spends) e z)

            pub one_more_own : {new : List (DocumentKeyword (DocumentNode K R))} → new ≡ more ++ option_to_list r → ObjectSoFar o F ms P q a ks new next c
            one_more_own behind = record {
              between = h.between;
              layer = subst (λ l. KeywordsSoFar (document_of o F) (answers o) (layer_members ms) P q a ks l h.between) (past_an_own here (is_an_own T ms m.0 m.1 x own.0)) h.layer;
              own = one_more_so_far h.own here made.spends
                  (subst (λ bs. OwnMean o F ms bs (h.own.done ++ m ∷ []) P) (sym (ap (map (own_answers o)) behind ∙ map-append (own_answers o) more (option_to_list r)))
                  (both_mean o F ms P _ _ h.own.done (m ∷ []) h.own.built.stand made.means))
                  (made.clean (ap (λ l. document_refusals F.refuses m.0 m.1 l (document_keyword m.0)) (sym place) ∙ own.1 F stand));
            }

      -- it is one of the layer
      module _ (layers : document_keyword m.0 ≡ other) where
        is_next : others left ≡ m ∷ others next
        is_next = first_of_others here (ap is_other_keyword layers)

        pub layer_member_refused : {c : Counts} {e : BuildError} → RefusesMember (document_of o F) (layer_members ms) m P b c e → RefusesObject (document_of o F) ms P a c e
        layer_member_refused r = layer_refused o F ms P
            (next_refused h.layer is_next (record { tells = r.tells; spends = record { spent = r.spends.spent; exactly = refl; within = r.spends.within } }))
            (memory_so_far (so_far_behind r.spends.spent h.own r.spends.exactly) (Memory alloc_error) refl).spends

        pub one_more_of_layer : {c : Counts} {r : Option (KeywordOver K R (DocumentNode K R))} {new : List (KeywordOver K R (DocumentNode K R))} → MemberIsBuilt (document_of o F) (layer_members ms) m P b c (answers o) r
            → new ≡ ks ++ option_to_list r → ObjectSoFar o F ms P q a new more next c
        one_more_of_layer {c} built behind =
            let spent = all_cost (document_of o F) (layer_members ms) (rows_read (layer_members ms) m) in
            let own = so_far_behind spent h.own built.spends in
            record {
              between = raised_by h.between (counted spent);
              layer = one_more h.layer is_next (record { made = built.made; clean = built.clean; spends = refl }) behind;
              own = one_more_so_far own here (spends_same c c _ _ (sym (layers_cost o F ms P m layers)) (spends_nothing c))
                  (subst (λ bs. OwnMean o F ms bs (own.done ++ m ∷ []) P) (append-nil _) (both_mean o F ms P _ [] own.done (m ∷ []) own.built.stand (silent_means o F ms P m (ap is_silent layers))))
                  (layers_right o F ms P m layers);
            }

        -- it is taken by another
        module _ {t : Bool} (is : t ≡ is_taken q m.0) where
          pub one_more_taken : t ≡ true → ObjectSoFar o F ms P q a ks more next b
          one_more_taken true_here = one_more_of_layer (taken_built (document_of o F) (answers o) (layer_members ms) P m.0 m.1 b (next_taken h.layer is_next is true_here)) (sym (append-nil ks))

          -- it stays
          module _ (untaken : t ≡ false) {c : Known} (known : c ≡ known_of ms) {L : Path} (place : L ≡ P // m.0) where
            stays : is_taken (plan_of (layer_members ms)) m.0 ≡ false
            stays = next_taken h.layer is_next is untaken

            found : IsMember (layer_members ms) m
            found = next_found h.layer is_next

            known_here : c ≡ known_of (layer_members ms)
            known_here = known ∙ sym (same_known ms)

            pub object_part_refused : {z : Counts} {e : BuildError} → RefusesPart (document_of o F) c m.0 m.1 L b z e → RefusesObject (document_of o F) ms P a z e
            object_part_refused r = layer_member_refused (part_refused (document_of o F) (answers o) (layer_members ms) P m.0 m.1 b stays found known_here place refl r)

            module _ {part : BuiltPart K R (DocumentNode K R)} {y : Counts} (built : IsPart (document_of o F) (answers o) part c m.0 m.1 L b y) where
              pub object_taken_refused : {z : Counts} {e : BuildError} → RefusesTaken (document_of o F) (layer_members ms) (takes_of part.shape) P y z e → RefusesObject (document_of o F) ms P a z e
              object_taken_refused r = layer_member_refused (taken_refused (document_of o F) (answers o) (layer_members ms) P m.0 m.1 b stays found known_here place refl built r)

              module _ {s : TakenNeighbours R (DocumentNode K R)} {z : Counts} (taken : IsTaken (document_of o F) (answers o) (layer_members ms) part.shape P y z s) where
                pub object_taking_memory : {w : AllocError} (e : BuildError) → e ≡ Memory w → RefusesObject (document_of o F) ms P a z e
                object_taking_memory e r = layer_member_refused (read_memory (document_of o F) (answers o) (layer_members ms) P m.0 m.1 b stays found known_here place refl built taken e r)

                pub one_more_taking : {new : List (KeywordOver K R (DocumentNode K R))} → AppendsTaking (document_of o F) (answers o) part.shape part.location part.nodes.items s P q ks new
                    → ObjectSoFar o F ms P q a new more next z
                one_more_taking w = one_more_of_layer
                    (member_built (document_of o F) (answers o) (layer_members ms) P m.0 m.1 b stays found known_here place refl built taken h.layer.distinct h.layer.plan w.makes) w.behind

              -- and takes none
              module _ {any : Bool} (takes : any ≡ is_some (takes_of part.shape)) (none : any ≡ false) where
                pub object_alone_memory : {w : AllocError} (e : BuildError) → e ≡ Memory w → RefusesObject (document_of o F) ms P a y e
                object_alone_memory e r = layer_member_refused (alone_memory (document_of o F) (answers o) (layer_members ms) P m.0 m.1 b stays found known_here place refl built takes none e r)

                pub one_more_alone : {new : List (KeywordOver K R (DocumentNode K R))} → AppendsAlone (document_of o F) (answers o) part.shape part.location part.nodes.items P q ks new
                    → ObjectSoFar o F ms P q a new more next y
                one_more_alone w = one_more_of_layer
                    (alone_built (document_of o F) (answers o) (layer_members ms) P m.0 m.1 b stays found known_here place refl built takes none h.layer.distinct h.layer.plan w.makes) w.behind
