-- The document's keywords mean what their members do.
use Rattle.std.proofs.Common.{◌≡◌, ℕ, true, ◌&&◌, List, [], ◌∷◌, ◌++◌, map, codes, refl, sym, ◌∙◌, ap, arith, append-nil, not, Option, Some, None, option_to_list}
use Rattle.std.specs.Prelude.{nat_lt}
use Rattle.std.specs.Option.{option_map_or}
use Rattle.std.proofs.Math.Bool.{or-false}
use Rattle.std.specs.List.{AllZip, flat_map, list_all, list_any, zip}
use Rattle.std.proofs.lemmas.List.Sums.{sum_by-cons}
use Rattle.serde_json.specs.Data.{Data, Members}
use Rattle.olk_spec.specs.Names.{Name, Path, ◌//◌, down}
use Rattle.olk_spec.specs.Faults.{Leaf, like_empty}
use Rattle.olk_spec.specs.Malformed.{items_of_array, each}
use Rattle.olk_spec.specs.Schemas.{Schema, Keywords, numbered, read_members}
use Rattle.serde_json.specs.Find.{get_member}
use Rattle.olk_spec.specs.Tree.{plain, erring}
use Rattle.olk_spec.proofs.Order.{∼_append, ∼_same}
use Rattle.olk_spec.proofs.Reading.{place, entry, whole_read, wholes_at_read, lookup_listed}
use Rattle.olk_spec.proofs.Truth.{and_from}
use Rattle.olk_base.specs.Kit.{Kit}
use Rattle.olk_meaning.specs.Steps.{validators}
use Rattle.olk_meaning.proofs.Facts.{branch_entries}
use Rattle.olk_tree.specs.Answers.{Answers, answered}
use Rattle.olk_tree.specs.OwnFaults.{unless}
use Rattle.olk_tree.specs.Steps.{StandsBy, StepsOf}
use Rattle.olk_document_spec.specs.Applied.{items_from, naturals, bounds_at, is_enough, is_within, contains_text}
use Rattle.olk_documents.specs.Arrays.{prefix_items_answers, items_answers}
use Rattle.olk_documents.specs.Contains.{in_bounds, contains_means, contains_answers}
use Rattle.olk_documents.specs.declared.contains.Bounds.{Bounds}
use Rattle.olk_documents.specs.declared.contains.Contains.{Contains}
use Rattle.olk_documents.specs.declared.arrays.Items.{Items}
use Rattle.olk_documents.specs.declared.arrays.PrefixItems.{PrefixItems}
use Rattle.olk_document_meaning.specs.Places.{Referred}
use Rattle.olk_document_meaning.specs.Rows.{row_asks}
use Rattle.olk_document_build.specs.Kits.{document_of}
use Rattle.olk_document_build.specs.Own.{OwnMean}
use Rattle.olk_document_build.specs.Reading.{skipped, bound_of, least_of, first_or_one}
use Rattle.olk_document_build.proofs.Arrays.{prefix_accepts, prefix_asks, prefix_report, prefix_child, items_row_accepts, items_row_asks, items_row_report, items_row_child, contains_row_accepts, contains_row_asks, contains_row_report}

module _ {K R N : Type 0} {o : Kit K R} (I : StepsOf o) (answers : N → Answers) (k : Name) (P : Path) where
  each_formed : (ns : List N) (es : List (Name × Data)) → AllZip (λ n e. StandsBy I answers n e.1 (P // k // e.0)) ns es → list_all (λ n. (answers n).formed) ns ≡ true
  each_formed [] [] h = refl
  each_formed [] (e ∷ es) h = absurd h
  each_formed (n ∷ ns) [] h = absurd h
  each_formed (n ∷ ns) (e ∷ es) h = and_from _ _ h.0.formed (each_formed ns es h.1)

  each_standing : (ns : List N) (es : List (Name × Data)) → AllZip (λ n e. StandsBy I answers n e.1 (P // k // e.0)) ns es
      → flat_map (λ n. (answers n).forms) ns ≡ flat_map (λ r. r.0.answer (down P r.1)) (each k (map (entry I.steps.stands) es))
  unfolding validators
  each_standing [] [] h = refl
  each_standing [] (e ∷ es) h = absurd h
  each_standing (n ∷ ns) [] h = absurd h
  each_standing (n ∷ ns) (e ∷ es) h = λ i. h.0.forms i ++ each_standing ns es h.1 i

module _ {K R N : Type 0} (o : Kit K R) (F : Referred) (answers : N → Answers) (ms : Members) (d : Data) (P : Path) where
  abbrev I : StepsOf o
  I = document_of o F

  pub prefix_items_mean : (k : PrefixItems N) → k.location ≡ P // codes "prefixItems" → AllZip (λ n e. StandsBy I answers n e.1 (P // codes "prefixItems" // e.0)) k.schemas.items (numbered (items_of_array d))
      → OwnMean o F ms (answered answers (prefix_items_answers k) ∷ []) ((codes "prefixItems", d) ∷ []) P
  prefix_items_mean k place h = record {
    verdict = λ u v. λ i. prefix_accepts o F answers ms d u v P [] k.schemas.items h i && true;
    asks_within = λ u v.
        let f : Name × Data → ℕ = λ m. row_asks o.world F ms m u v in
        let a = prefix_asks o F answers ms d u v P [] k.schemas.items h in
        let b = sum_by-cons f (codes "prefixItems", d) [] in
        omega (arith, a, b);
    faults = λ u v Q. ∼_append (prefix_report o F answers ms d u v P Q k.schemas.items h) like_empty;
    evaluation = λ u v Q. ap (λ L. plain L Q (map (λ e. (answers e.0).tree u e.1.1 (Q // e.1.0)) (zip k.schemas.items (items_from 0 v))) ∷ []) place ∙ prefix_child o F answers ms d u v P Q k.schemas.items h ∙ sym (append-nil _);
    formed = and_from _ _ (each_formed I answers (codes "prefixItems") P k.schemas.items _ h) refl;
    forms = ap (λ l. l ++ []) (each_standing I answers (codes "prefixItems") P k.schemas.items _ h ∙ ap (λ bs. flat_map (λ r. r.0.answer (down P r.1)) (each (codes "prefixItems") bs)) (sym (branch_entries I.steps.stands d)));
  }

  pub items_mean : (k : Items N) → k.location ≡ P // codes "items" → k.skip ≡ skipped ms → StandsBy I answers k.node d (P // codes "items") → OwnMean o F ms (answered answers (items_answers k) ∷ []) ((codes "items", d) ∷ []) P
  unfolding validators
  items_mean k place skips s = record {
    verdict = λ u v. λ i. items_row_accepts o F answers ms d u v P [] s k.skip skips i && true;
    asks_within = λ u v.
        let f : Name × Data → ℕ = λ m. row_asks o.world F ms m u v in
        let a = items_row_asks o F answers ms d u v P [] s k.skip skips in
        let b = sum_by-cons f (codes "items", d) [] in
        omega (arith, a, b);
    faults = λ u v Q. ∼_append (items_row_report o F answers ms d u v P Q s k.skip skips) like_empty;
    evaluation = λ u v Q. ap (λ L. plain L Q (map (λ e. (answers k.node).tree u e.1 (Q // e.0)) (items_from k.skip v)) ∷ []) place ∙ items_row_child o F answers ms d u v P Q s k.skip skips ∙ sym (append-nil _);
    formed = and_from _ _ s.formed refl;
    forms = ap (λ l. l ++ []) (s.forms ∙ ap (λ w. w.answer (P // codes "items")) (sym (whole_read I.steps.stands d)) ∙ sym (append-nil _));
  }

  -- ---- `contains`

  bounds_read : {X : Type 0} (step : Schema X → X) (k : Name) → bounds_at (read_members step ms) k ≡ bound_of ms k
  bounds_read step k = ap (flat_map (λ s. naturals s.schema)) (wholes_at_read step ms k) ∙ by (get_member k ms) ∙ ap (λ a. flat_map naturals (option_to_list a)) (sym (lookup_listed k ms))
    where
      by : (a : Option Data) → flat_map (λ s. naturals s.schema) (map (place step) (option_to_list a)) ≡ flat_map naturals (option_to_list a)
      by None = refl
      by (Some e) = refl

  enough : {X : Type 0} (S : Keywords X) (i : ℕ) (ls : List ℕ) → not (nat_lt i (first_or_one ls)) ≡ is_enough S i ls
  enough S i [] = refl
  enough S i (l ∷ ls) = refl

  not_too_many : (i : ℕ) (a : Option ℕ) → option_map_or (λ l. not (nat_lt l i)) a true ≡ not (list_any (λ l. nat_lt l i) (option_to_list a))
  not_too_many i None = refl
  not_too_many i (Some l) = ap not (sym (or-false (nat_lt l i)))

  module _ (b : Bounds) (least : b.least ≡ least_of ms) (most : option_to_list b.most ≡ bound_of ms (codes "maxContains")) where
    in_both : {X : Type 0} (step : Schema X → X) (i : ℕ) → in_bounds b i ≡ is_within (read_members step ms) i
    in_both step i =
        (λ j. not (nat_lt i (least j)) && not_too_many i b.most j)
        ∙ (λ j. enough (read_members step ms) i (bound_of ms (codes "minContains")) j && not (list_any (λ l. nat_lt l i) (most j)))
        ∙ (λ j. is_enough (read_members step ms) i (sym (bounds_read step (codes "minContains")) j) && not (list_any (λ l. nat_lt l i) (sym (bounds_read step (codes "maxContains")) j)))

  pub contains_mean : (k : Contains N) → k.location ≡ P // codes "contains" → k.bounds.least ≡ least_of ms → option_to_list k.bounds.most ≡ bound_of ms (codes "maxContains")
      → StandsBy I answers k.node d (P // codes "contains") → OwnMean o F ms (answered answers (contains_answers k) ∷ []) ((codes "contains", d) ∷ []) P
  unfolding validators
  contains_mean k place least most s = record {
    verdict = λ u v. λ i. contains_row_accepts o F answers ms d u v P [] s (in_bounds k.bounds) (in_both k.bounds least most (I.steps.means u)) i && true;
    asks_within = λ u v.
        let f : Name × Data → ℕ = λ m. row_asks o.world F ms m u v in
        let a = contains_row_asks o F answers ms d u v P [] s in
        let b = sum_by-cons f (codes "contains", d) [] in
        omega (arith, a, b);
    faults = λ u v Q. ∼_append (∼_same (ap (λ L. unless ((contains_means (λ n. (answers n).means) k v).accepts u) (Leaf (codes "contains") (contains_text v)) v L Q) place
        ∙ contains_row_report o F answers ms d u v P Q s (in_bounds k.bounds) (in_both k.bounds least most (I.steps.means u)))) like_empty;
    evaluation = λ u v Q. ap (λ L. erring L Q (unless ((contains_means (λ n. (answers n).means) k v).accepts u) (Leaf (codes "contains") (contains_text v)) v L Q) ∷ []) place
        ∙ ap (λ fs. erring (P // codes "contains") Q fs ∷ []) (contains_row_report o F answers ms d u v P Q s (in_bounds k.bounds) (in_both k.bounds least most (I.steps.means u))) ∙ sym (append-nil _);
    formed = and_from _ _ s.formed refl;
    forms = ap (λ l. l ++ []) (s.forms ∙ ap (λ w. w.answer (P // codes "contains")) (sym (whole_read I.steps.stands d)) ∙ sym (append-nil _));
  }
