-- What nodes answer of the items of an array is what the schemas answer for which they stand.
use Rattle.std.proofs.Common.{◌≡◌, ◌≤◌, ℕ, Bool, true, false, not, ◌&&◌, ◌||◌, List, [], ◌∷◌, map, codes, sum_by, refl, sym, ◌∙◌, ap, arith, append-nil, length, Option, Some, None, option_map, option_to_list}
use Rattle.std.specs.Prelude.{count_by}
use Rattle.std.specs.List.{AllZip, flat_map, list_all, zip}
use Rattle.std.proofs.Math.Bool.{and-true}
use Rattle.std.proofs.lemmas.List.Sums.{sum_by-cons}
use Rattle.serde_json.specs.Data.{Data, Members}
use Rattle.serde_json.specs.Find.{get_member}
use Rattle.olk_spec.specs.Names.{Name, Path, ◌//◌, down}
use Rattle.olk_spec.specs.Faults.{Fault, Leaf, ◌∼◌, like_empty}
use Rattle.olk_spec.specs.Reports.{fault_if}
use Rattle.olk_spec.specs.Malformed.{items_of_array}
use Rattle.olk_spec.specs.Meanings.{Meaning, Asked, asked, holds}
use Rattle.olk_spec.specs.Schemas.{Schema, numbered, read, read_members, branches, is_array}
use Rattle.olk_spec.specs.Tree.{Tree, plain}
use Rattle.olk_spec.proofs.Order.{∼_append, ∼_same}
use Rattle.olk_spec.specs.Faults.{like_through}
use Rattle.std.proofs.lemmas.List.{length-map}
use Rattle.olk_spec.proofs.Reading.{place, entry, whole_read, items_read, lookup_read, lookup_listed}
use Rattle.olk_base.specs.Kit.{Kit}
use Rattle.olk_meaning.specs.Steps.{meaning}
use Rattle.olk_meaning.proofs.Facts.{branch_entries}
use Rattle.olk_tree.specs.Answers.{Answers}
use Rattle.olk_tree.specs.Questions.{every, some, how_many, of_asked}
use Rattle.olk_tree.specs.Steps.{StandsBy, StepsOf}
use Rattle.olk_document_spec.specs.Applied.{items_from, prefix_length, contained, is_within, is_lacking, contains_text}
use Rattle.olk_document_build.specs.Reading.{skipped}
use Rattle.olk_document_build.specs.Kits.{document_of}
use Rattle.olk_document_meaning.specs.Places.{Referred}
use Rattle.olk_document_meaning.specs.Rows.{row_accepts, row_asks, row_report, row_child}

abbrev accepts_it : Asked → Bool
accepts_it a = holds a.sub a.value

abbrev asks_it : Asked → ℕ
asks_it a = a.sub.answer.asks a.value

abbrev finds_it : Path → Path → Asked → List Fault
finds_it P Q a = a.sub.answer.report a.value (down P a.in_schema) (down Q a.in_instance)

abbrev shows_it : Path → Path → Asked → Tree
shows_it P Q a = a.sub.answer.tree a.value (down P a.in_schema) (down Q a.in_instance)

module _ {K R N : Type 0} {o : Kit K R} (I : StepsOf o) (answers : N → Answers) (u : Bool) (k : Name) (P Q : Path) where
  abbrev step : Schema Meaning → Meaning
  step = I.steps.means u

  abbrev Stand : N → Name × Data → Type 0
  Stand n e = StandsBy I answers n e.1 (P // k // e.0)

  -- ---- each item with a node of its own

  abbrev pairs_asked : List (Name × Data) → List (Name × Data) → List Asked
  pairs_asked es is = map (λ e. asked e.0.1 e.1.1 (k ∷ e.0.0 ∷ []) (e.1.0 ∷ [])) (zip (map (entry step) es) is)

  pub pairs_accept : (ns : List N) (es is : List (Name × Data)) → AllZip Stand ns es → (every (λ e. (answers e.0).means e.1.1) (zip ns is)).accepts u ≡ list_all accepts_it (pairs_asked es is)
  unfolding meaning
  pairs_accept [] [] is h = refl
  pairs_accept [] (e ∷ es) is h = absurd h
  pairs_accept (n ∷ ns) [] is h = absurd h
  pairs_accept (n ∷ ns) (e ∷ es) [] h = refl
  pairs_accept (n ∷ ns) (e ∷ es) (i ∷ is) h = λ j. h.0.verdict u i.1 j && pairs_accept ns es is h.1 j

  pub pairs_ask : (ns : List N) (es is : List (Name × Data)) → AllZip Stand ns es → (every (λ e. (answers e.0).means e.1.1) (zip ns is)).asks of_asked u ≤ sum_by asks_it (pairs_asked es is)
  unfolding meaning
  pairs_ask [] [] is h = omega arith
  pairs_ask [] (e ∷ es) is h = absurd h
  pairs_ask (n ∷ ns) [] is h = absurd h
  pairs_ask (n ∷ ns) (e ∷ es) [] h = omega arith
  pairs_ask (n ∷ ns) (e ∷ es) (i ∷ is) h =
      let a = h.0.asks_within u i.1 in
      let b = pairs_ask ns es is h.1 in
      let c = sum_by-cons asks_it (asked (place step e.1) i.1 (k ∷ e.0 ∷ []) (i.0 ∷ [])) (pairs_asked es is) in
      omega (arith, a, b, c)

  pub pairs_find : (ns : List N) (es is : List (Name × Data)) → AllZip Stand ns es → flat_map (λ e. (answers e.0).report u e.1.1 (Q // e.1.0)) (zip ns is) ∼ flat_map (finds_it P Q) (pairs_asked es is)
  unfolding meaning
  pairs_find [] [] is h = like_empty
  pairs_find [] (e ∷ es) is h = absurd h
  pairs_find (n ∷ ns) [] is h = absurd h
  pairs_find (n ∷ ns) (e ∷ es) [] h = like_empty
  pairs_find (n ∷ ns) (e ∷ es) (i ∷ is) h = ∼_append (h.0.faults u i.1 (Q // i.0)) (pairs_find ns es is h.1)

  pub pairs_show : (ns : List N) (es is : List (Name × Data)) → AllZip Stand ns es → map (λ e. (answers e.0).tree u e.1.1 (Q // e.1.0)) (zip ns is) ≡ map (shows_it P Q) (pairs_asked es is)
  unfolding meaning
  pairs_show [] [] is h = refl
  pairs_show [] (e ∷ es) is h = absurd h
  pairs_show (n ∷ ns) [] is h = absurd h
  pairs_show (n ∷ ns) (e ∷ es) [] h = refl
  pairs_show (n ∷ ns) (e ∷ es) (i ∷ is) h = λ j. h.0.evaluation u i.1 (Q // i.0) j ∷ pairs_show ns es is h.1 j

  -- ---- each item with one node

  module _ {n : N} {d : Data} (s : StandsBy I answers n d (P // k)) where
    abbrev items_asked : List (Name × Data) → List Asked
    items_asked is = map (λ e. asked (place step d) e.1 (k ∷ []) (e.0 ∷ [])) is

    pub items_accept : (is : List (Name × Data)) → (every (λ e. (answers n).means e.1) is).accepts u ≡ list_all accepts_it (items_asked is)
    unfolding meaning
    items_accept [] = refl
    items_accept (i ∷ is) = λ j. s.verdict u i.1 j && items_accept is j

    pub items_ask : (is : List (Name × Data)) → (every (λ e. (answers n).means e.1) is).asks of_asked u ≤ sum_by asks_it (items_asked is)
    unfolding meaning
    items_ask [] = omega arith
    items_ask (i ∷ is) =
        let a = s.asks_within u i.1 in
        let b = items_ask is in
        let c = sum_by-cons asks_it (asked (place step d) i.1 (k ∷ []) (i.0 ∷ [])) (items_asked is) in
        omega (arith, a, b, c)

    pub items_find : (is : List (Name × Data)) → flat_map (λ e. (answers n).report u e.1 (Q // e.0)) is ∼ flat_map (finds_it P Q) (items_asked is)
    unfolding meaning
    items_find [] = like_empty
    items_find (i ∷ is) = ∼_append (s.faults u i.1 (Q // i.0)) (items_find is)

    pub items_show : (is : List (Name × Data)) → map (λ e. (answers n).tree u e.1 (Q // e.0)) is ≡ map (shows_it P Q) (items_asked is)
    unfolding meaning
    items_show [] = refl
    items_show (i ∷ is) = λ j. s.evaluation u i.1 (Q // i.0) j ∷ items_show is j

    -- how many items are accepted

    pub items_count : (ds : List Data) → how_many (λ x. (answers n).means x) u ds ≡ count_by (λ x. holds (place step d) x) ds
    unfolding meaning
    items_count ds = λ j. count_by (λ x. s.verdict u x j) ds

    pub contained_ask : (ds : List Data) → (some (λ x. (answers n).means x) ds).asks of_asked u ≤ sum_by (λ x. (place step d).answer.asks x) ds
    unfolding meaning
    contained_ask [] = omega arith
    contained_ask (x ∷ ds) =
        let a = s.asks_within u x in
        let b = contained_ask ds in
        let c = sum_by-cons (λ y. (place step d).answer.asks y) x ds in
        omega (arith, a, b, c)

unless_lacking : (a w : Bool) → (not a || w) ≡ (true && true && not (a && not w))
unless_lacking true true = refl
unless_lacking true false = refl
unless_lacking false w = refl

twice : (b : Bool) → not (true && true && not b) ≡ b
twice true = refl
twice false = refl

-- ---- what is read of neighbours

module _ {X : Type 0} (step : Schema X → X) (ms : Members) where
  items_at : (a : Option Data) → length (flat_map (λ p. p.items) (option_to_list (option_map (read step) a))) ≡ length (flat_map items_of_array (option_to_list a))
  items_at None = refl
  items_at (Some d) = ap length (append-nil (read step d).items ∙ items_read step d) ∙ length-map (items_of_array d) (place step) ∙ ap length (sym (append-nil (items_of_array d)))

  pub skips_read : prefix_length (read_members step ms) ≡ skipped ms
  skips_read = ap (λ a. length (flat_map (λ p. p.items) (option_to_list a))) (lookup_read step (codes "prefixItems") ms) ∙ items_at (get_member (codes "prefixItems") ms)
      ∙ ap (λ a. length (flat_map items_of_array (option_to_list a))) (sym (lookup_listed (codes "prefixItems") ms))

-- ---- the rows

module _ {K R N : Type 0} (o : Kit K R) (F : Referred) (answers : N → Answers) (ms : Members) (d : Data) (u : Bool) (v : Data) (P Q : Path) where
  abbrev I : StepsOf o
  I = document_of o F

  abbrev to_meaning : Schema Meaning → Meaning
  to_meaning = I.steps.means u

  module _ (ns : List N) (h : AllZip (λ n e. StandsBy I answers n e.1 (P // codes "prefixItems" // e.0)) ns (numbered (items_of_array d))) where
    same_asked : pairs_asked I answers u (codes "prefixItems") P Q (numbered (items_of_array d)) (items_from 0 v) ≡ map (λ e. asked e.0.1 e.1.1 (codes "prefixItems" ∷ e.0.0 ∷ []) (e.1.0 ∷ [])) (zip (branches (read to_meaning d)) (items_from 0 v))
    same_asked = ap (λ bs. map (λ e. asked e.0.1 e.1.1 (codes "prefixItems" ∷ e.0.0 ∷ []) (e.1.0 ∷ [])) (zip bs (items_from 0 v))) (sym (branch_entries to_meaning d))

    pub prefix_accepts : (every (λ e. (answers e.0).means e.1.1) (zip ns (items_from 0 v))).accepts u ≡ row_accepts o.world F ms (codes "prefixItems", d) u v
    prefix_accepts = pairs_accept I answers u (codes "prefixItems") P Q ns (numbered (items_of_array d)) (items_from 0 v) h ∙ ap (list_all accepts_it) same_asked ∙ sym (and-true _ ∙ and-true _)

    pub prefix_asks : (every (λ e. (answers e.0).means e.1.1) (zip ns (items_from 0 v))).asks of_asked u ≤ row_asks o.world F ms (codes "prefixItems", d) u v
    prefix_asks = let a = pairs_ask I answers u (codes "prefixItems") P Q ns (numbered (items_of_array d)) (items_from 0 v) h in let b = ap (sum_by asks_it) same_asked in omega (arith, a, b)

    pub prefix_report : flat_map (λ e. (answers e.0).report u e.1.1 (Q // e.1.0)) (zip ns (items_from 0 v)) ∼ row_report o.world F ms (codes "prefixItems", d) u v P Q
    prefix_report = like_through (pairs_find I answers u (codes "prefixItems") P Q ns (numbered (items_of_array d)) (items_from 0 v) h) (∼_same (ap (flat_map (finds_it P Q)) same_asked ∙ sym (append-nil _ ∙ append-nil _)))

    pub prefix_child : plain (P // codes "prefixItems") Q (map (λ e. (answers e.0).tree u e.1.1 (Q // e.1.0)) (zip ns (items_from 0 v))) ∷ [] ≡ row_child o.world F ms (codes "prefixItems", d) u v P Q
    prefix_child = ap (λ ts. plain (P // codes "prefixItems") Q ts ∷ []) (pairs_show I answers u (codes "prefixItems") P Q ns (numbered (items_of_array d)) (items_from 0 v) h ∙ ap (map (shows_it P Q)) same_asked)

  -- ---- `items`

  module _ {n : N} (s : StandsBy I answers n d (P // codes "items")) (skip : ℕ) (skips : skip ≡ skipped ms) where
    abbrev asked_behind : ℕ → List Asked
    asked_behind i = map (λ e. asked (read to_meaning d).whole e.1 (codes "items" ∷ []) (e.0 ∷ [])) (items_from i v)

    behind : items_asked I answers u (codes "items") P Q s (items_from skip v) ≡ asked_behind (prefix_length (read_members to_meaning ms))
    behind = (λ i. map (λ e. asked (sym (whole_read to_meaning d) i) e.1 (codes "items" ∷ []) (e.0 ∷ [])) (items_from skip v)) ∙ ap asked_behind (skips ∙ sym (skips_read to_meaning ms))

    pub items_row_accepts : (every (λ e. (answers n).means e.1) (items_from skip v)).accepts u ≡ row_accepts o.world F ms (codes "items", d) u v
    items_row_accepts = items_accept I answers u (codes "items") P Q s (items_from skip v) ∙ ap (list_all accepts_it) behind ∙ sym (and-true _ ∙ and-true _)

    pub items_row_asks : (every (λ e. (answers n).means e.1) (items_from skip v)).asks of_asked u ≤ row_asks o.world F ms (codes "items", d) u v
    items_row_asks = let a = items_ask I answers u (codes "items") P Q s (items_from skip v) in let b = ap (sum_by asks_it) behind in omega (arith, a, b)

    pub items_row_report : flat_map (λ e. (answers n).report u e.1 (Q // e.0)) (items_from skip v) ∼ row_report o.world F ms (codes "items", d) u v P Q
    items_row_report = like_through (items_find I answers u (codes "items") P Q s (items_from skip v)) (∼_same (ap (flat_map (finds_it P Q)) behind ∙ sym (append-nil _ ∙ append-nil _)))

    pub items_row_child : plain (P // codes "items") Q (map (λ e. (answers n).tree u e.1 (Q // e.0)) (items_from skip v)) ∷ [] ≡ row_child o.world F ms (codes "items", d) u v P Q
    items_row_child = ap (λ ts. plain (P // codes "items") Q ts ∷ []) (items_show I answers u (codes "items") P Q s (items_from skip v) ∙ ap (map (shows_it P Q)) behind)

  -- ---- `contains`

  module _ {n : N} (s : StandsBy I answers n d (P // codes "contains")) where
    same_count : how_many (λ x. (answers n).means x) u (items_of_array v) ≡ contained (F.means u) (read_members to_meaning ms) (codes "contains") (read to_meaning d) v
    same_count = items_count I answers u (codes "contains") P Q s (items_of_array v) ∙ (λ i. count_by (λ x. holds (sym (whole_read to_meaning d) i) x) (items_of_array v))

    -- a test of how many are accepted, which is that of the bounds
    module _ (test : ℕ → Bool) (tests : (i : ℕ) → test i ≡ is_within (read_members to_meaning ms) i) where
      pub contains_row_accepts : (not (is_array v) || test (how_many (λ x. (answers n).means x) u (items_of_array v))) ≡ row_accepts o.world F ms (codes "contains", d) u v
      contains_row_accepts = (λ i. not (is_array v) || (tests (same_count i) i)) ∙ unless_lacking (is_array v) (is_within (read_members to_meaning ms) (contained (F.means u) (read_members to_meaning ms) (codes "contains") (read to_meaning d) v))

      pub contains_row_report : fault_if (not (not (is_array v) || test (how_many (λ x. (answers n).means x) u (items_of_array v)))) (Leaf (codes "contains") (contains_text v)) v (P // codes "contains") Q
          ≡ row_report o.world F ms (codes "contains", d) u v P Q
      contains_row_report = ap (λ b. fault_if (not b) (Leaf (codes "contains") (contains_text v)) v (P // codes "contains") Q) contains_row_accepts
          ∙ ap (λ b. fault_if b (Leaf (codes "contains") (contains_text v)) v (P // codes "contains") Q) (twice (is_lacking (F.means u) (read_members to_meaning ms) (codes "contains") (read to_meaning d) v))

    pub contains_row_asks : (some (λ x. (answers n).means x) (items_of_array v)).asks of_asked u ≤ row_asks o.world F ms (codes "contains", d) u v
    contains_row_asks =
        let a = contained_ask I answers u (codes "contains") P Q s (items_of_array v) in
        let b = ap (λ p. sum_by (λ x. p.answer.asks x) (items_of_array v)) (sym (whole_read to_meaning d)) in
        omega (arith, a, b)
