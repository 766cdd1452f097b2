-- What `additionalProperties` that restricts other members means, and what it shows.
use Rattle.std.proofs.Common.{◌≡◌, ℕ, ◌+◌, Bool, true, false, cond, ◌&&◌, List, ◌++◌, sum_by, codes, Some, option_to_list, not, ◌||◌, [], ◌∷◌, map, Option, None, is_some, refl, sym, ◌∙◌, ap, arith}
use Rattle.std.proofs.Common.{append_assoc, true≢false}
use Rattle.std.specs.List.{list_all, flat_map}
use Rattle.std.proofs.lemmas.List.Sums.{sum_by-cons, sum_by-append}
use Rattle.std.proofs.Math.Bool.{and_assoc, and-true}
use Rattle.serde_json.specs.Data.{Data, string, array, no_items, item, Members}
use Rattle.olk_spec.specs.Names.{Name, Path, ◌//◌, lookup_name, is_empty, put_if, is_among}
use Rattle.olk_spec.specs.Vocabulary.{keyword_named, properties, pattern_properties, additional_properties, required}
use Rattle.olk_spec.specs.Faults.{Fault, ◌∼◌, like_through}
use Rattle.olk_spec.specs.Schemas.{listed, members, at, Schema, Keywords, read, read_members, is_object, texts}
use Rattle.olk_spec.proofs.Order.{∼_same, ∼_sym, ∼_append, ∼_before, ∼_behind, ∼_swap, ∼_parts, ∼_permuted}
use Rattle.olk_spec.proofs.Walks.{Distinct-from, list_all-and, list_all-other_side, ∼_other_side}
use Rattle.olk_meaning.specs.Members.{member_accepts, member_asks, member_report, member_child}
use Rattle.olk_meaning.specs.Plans.{plan_of, head, claims}
use Rattle.olk_meaning.specs.AdditionalProperties.{rows_at, fused_rows, entries_in, declared_beside, patterns_beside, required_beside, has_beside, declared_accepts, matching_accept, rest_accepts}
use Rattle.olk_meaning.specs.AdditionalProperties.{each_accepts, declared_report, matching_report, rest_report, each_report, others_report, declared_asks, matching_asks, patterns_asked, rest_asks}
use Rattle.olk_meaning.specs.AdditionalProperties.{each_asks, is_declared_in, is_other, other_names, declared_shown, matching_shown, matching_at, each_shown, names_matched, required_child}
use Rattle.olk_meaning.specs.AdditionalProperties.{restriction_shown}
use Rattle.olk_meaning.proofs.AdditionalProperties.{additional_accepts, additional_report, additional_asks, own_others}
use Rattle.olk_meaning.proofs.Claims.{list_all-permuted, claims_restriction}
use Rattle.olk_meaning.proofs.Facts.{list_all-exchanged, ∼_exchanged, sum_by-other_side, sum_of_both, sum_of_none, all_there, sum_there, find_there, declared_accept, declared_find, declared_ask}
use Rattle.olk_meaning.proofs.Facts.{required_accepts, required_report, required_asks}
use Rattle.olk_meaning.proofs.PatternProperties.{pattern_properties_accepts, pattern_properties_report, pattern_properties_asks_beside}
use Rattle.olk_meaning.proofs.Conditions.{restricted_read, present, entries_beside, matching_read, additional_read}
use Rattle.olk_spec.specs.Meanings.{Meaning, Subschema}
use Rattle.olk_spec.specs.Tree.{Tree, node, no_tree, result, erring, described}
use Rattle.olk_spec.specs.Trees.{declared_trees, pattern_trees, additional_trees, additional_names, matched_names, missing_child, fuses_one, fuses_two}
use Rattle.olk_spec.proofs.Each.{Each, Each-implies}
use Rattle.olk_spec.proofs.Maps.{map-map}
use Rattle.olk_spec.proofs.Truth.{is_among-filter_once, Each-among}
use Rattle.olk_spec.proofs.Reading.{entry, whole_read}
use Rattle.olk_meaning.proofs.Clean.{fused_reads, fused_names_read}
use Rattle.std.proofs.{lemmas.List.Folds.list_all-append, lemmas.Grind.flat_map-append, lemmas.List.Sorted.sum_by-IsPermutation}
use Rattle.olk_spec.specs.{World.World, Malformed.has_repeat, Accepts.missing, Reports.required_faults}
use Rattle.olk_meaning.specs.Steps.{Steps, accepts, asks, report, tree, meaning}
use Rattle.olk_meaning.specs.{Conditions.is_restricted, Fused.fused_one, PatternProperties.matched_members}
use Rattle.olk_meaning.proofs.{Listed.names_of, Rows.Rows, Children.entry_shown}

-- ---- what the members mean together for which the validator of `additionalProperties` stands where it restricts other members

-- the rest and three others in the order in which they are wanted
in_order : (r a b c : Bool) → (r && (a && (b && c))) ≡ ((a && (b && r)) && c)
in_order true true true c = refl
in_order false true true c = refl
in_order _ _ _ c = refl

found_in_order : (r o a b c : List Fault) → (r ++ o) ++ (a ++ (b ++ c)) ∼ ((a ++ (b ++ r)) ++ o) ++ c
found_in_order r o a b c = like_through (∼_swap (r ++ o) (a ++ (b ++ c)))
    (like_through (∼_same (append_assoc a (b ++ c) (r ++ o) ∙ ap (λ l. a ++ l) (append_assoc b c _)))
    (like_through (∼_before a (∼_before b (∼_swap c _)))
    (∼_same (ap (λ l. a ++ (b ++ l)) (append_assoc r o c) ∙ ap (λ l. a ++ l) (sym (append_assoc b r _)) ∙ sym (append_assoc a _ _) ∙ sym (append_assoc _ o c)))))

-- `required` of one name
abbrev listing : Name → Name × Data
listing n = (codes "required", array (item (string n) no_items))

module _ {W : World} (I : Steps W) (ms : Members) (d : Data) (distinct : has_repeat (names_of (listed ms)) ≡ false) (there : lookup_name (codes "additionalProperties") (listed ms) ≡ Some d)
    (restricted : is_restricted ms ≡ true) (u : Bool) (v : Data) where
  abbrev fs : Rows
  fs = declared_beside ms

  abbrev es : Rows
  es = patterns_beside ms

  -- what the validator stands for
  abbrev claimed : Rows
  claimed = claims (head (plan_of ms)) (listed ms) (codes "additionalProperties", d)

  -- ---- the verdict

  abbrev row_accepts : Name × Data → Bool
  row_accepts m = member_accepts I ms m (keyword_named W m.0) u v

  -- the declared schemas at the members of their names
  abbrev all_declared_accept : Bool
  all_declared_accept = list_all (λ e. list_all (accepts I u e.1) (at e.0 v)) fs

  -- a member, by the patterns and the rest
  abbrev others_accept_it : Name × Data → Bool
  others_accept_it x = matching_accept I u fs es x && rest_accepts I u fs es d x

  abbrev none_missing : Bool
  none_missing = is_empty (missing (required_beside ms) v)

  declared_rows_accept : list_all row_accepts (rows_at (codes "properties") ms) ≡ all_declared_accept
  declared_rows_accept = all_there (λ d. (codes "properties", d)) row_accepts (λ o. list_all (λ e. list_all (accepts I u e.1) (at e.0 v)) (entries_in o)) refl (λ d. declared_accept I ms d u v) _

  pattern_rows_accept : list_all row_accepts (rows_at (codes "patternProperties") ms) ≡ list_all (matching_accept I u fs es) (members v)
  pattern_rows_accept =
      all_there (λ d. (codes "patternProperties", d)) row_accepts (λ o. list_all (λ e. list_all (λ x. accepts I u e.1 x.1) (matched_members W u e.0 v)) (entries_in o)) refl
      (λ d. pattern_properties_accepts I ms d u v) _ ∙ list_all-exchanged _ _ es _

  fused_rows_accept : list_all row_accepts (fused_rows ms) ≡ none_missing
  fused_rows_accept = all_there listing row_accepts (λ o. is_empty (missing (option_to_list o) v)) refl (λ n. required_accepts I ms (listing n).1 u v) (fused_one ms)

  -- each declared schema at the member of its name, and each member by the patterns and the rest
  pub claims_accept : list_all row_accepts claimed ≡ ((all_declared_accept && list_all others_accept_it (members v)) && none_missing)
  claims_accept = sym (list_all-permuted row_accepts _ claimed (claims_restriction ms restricted distinct d there))
      ∙ ap (λ b. row_accepts (codes "additionalProperties", d) && b) (list_all-append row_accepts (rows_at (codes "properties") ms) (rows_at (codes "patternProperties") ms ++ fused_rows ms))
      ∙ (λ i. additional_accepts I ms d u v i && (declared_rows_accept i
      && (list_all-append row_accepts (rows_at (codes "patternProperties") ms) (fused_rows ms) ∙ (λ j. pattern_rows_accept j && fused_rows_accept j)) i))
      ∙ in_order (list_all (rest_accepts I u fs es d) (members v)) (list_all (λ e. list_all _ (at e.0 v)) fs)
      (list_all (matching_accept I u fs es) (members v)) none_missing ∙ ap (λ b. (all_declared_accept && b) && none_missing)
      (sym (list_all-and _ _ (members v)))

  -- where no name stands twice among the declared and among the members, member by member
  module _ (declared_once : has_repeat (names_of fs) ≡ false) (members_once : has_repeat (names_of (members v)) ≡ false) where
    declared_by_member : all_declared_accept ≡ list_all (declared_accepts I u fs es) (members v)
    declared_by_member = list_all-other_side _ fs (members v) (Distinct-from fs declared_once) (Distinct-from (members v) members_once)

    pub claims_accept_each : list_all row_accepts claimed ≡ (list_all (each_accepts I u fs es d) (members v) && none_missing)
    claims_accept_each = claims_accept ∙ ap (λ b. b && none_missing)
        ((λ i. declared_by_member i && list_all-and (matching_accept I u fs es) (rest_accepts I u fs es d) (members v) i)
        ∙ sym (and_assoc (list_all _ (members v)) (list_all _ (members v)) (list_all _ (members v)))
        ∙ sym ((list_all-and (λ x. declared_accepts I u fs es x && matching_accept I u fs es x) (rest_accepts I u fs es d) (members v)) ∙ ap (λ b. b && list_all (rest_accepts I u fs es d) (members v)) (list_all-and _ _ (members v))))

  -- ---- the faults, where the schema object stands at P and the value at Q

  module _ (P Q : Path) where
    abbrev row_report : Name × Data → List Fault
    row_report m = member_report I ms m (keyword_named W m.0) u v P Q

    -- what the declared schemas find, name by name
    abbrev declared_found : List Fault
    declared_found = flat_map (λ e. flat_map (λ x. report I u e.1 x (P // codes "properties" // e.0) (Q // e.0)) (at e.0 v)) fs

    abbrev others_found : List Fault
    others_found = others_report W u fs es P Q (has_beside ms) d v

    abbrev required_found : List Fault
    required_found = required_faults (required_beside ms) v (P // codes "required") Q

    declared_rows_find : flat_map row_report (rows_at (codes "properties") ms) ≡ declared_found
    declared_rows_find = find_there (λ d. (codes "properties", d)) row_report
        (λ o. flat_map (λ e. flat_map (λ x. report I u e.1 x (P // codes "properties" // e.0) (Q // e.0)) (at e.0 v)) (entries_in o)) refl (λ d. declared_find I ms d u v P Q) _

    pattern_rows_find : flat_map row_report (rows_at (codes "patternProperties") ms) ∼ flat_map (matching_report I u fs es P Q) (members v)
    pattern_rows_find = like_through (∼_same (find_there (λ d. (codes "patternProperties", d)) row_report
        (λ o. flat_map (λ e. flat_map (λ x. report I u e.1 x.1 (P // codes "patternProperties" // e.0) (Q // x.0)) (matched_members W u e.0 v)) (entries_in o)) refl
        (λ d. pattern_properties_report I ms d u v P Q) _)) (∼_exchanged _ _ es _)

    fused_rows_find : flat_map row_report (fused_rows ms) ≡ required_found
    fused_rows_find = find_there listing row_report (λ o. required_faults (option_to_list o) v (P // codes "required") Q) refl (λ n. required_report I ms (listing n).1 u v P Q) (fused_one ms)

    -- in a member, by the patterns and the rest
    abbrev others_find_it : Name × Data → List Fault
    others_find_it x = matching_report I u fs es P Q x ++ rest_report I u fs es P Q d x

    rows_find : row_report (codes "additionalProperties", d) ++ flat_map row_report (rows_at (codes "properties") ms ++ (rows_at (codes "patternProperties") ms ++ fused_rows ms))
        ∼ (flat_map (rest_report I u fs es P Q d) (members v) ++ others_found) ++ (declared_found ++ (flat_map (matching_report I u fs es P Q) (members v) ++ required_found))
    rows_find = ∼_append (∼_same (additional_report I ms d u v P Q))
        (like_through (∼_same (flat_map-append row_report (rows_at (codes "properties") ms) (rows_at (codes "patternProperties") ms ++ fused_rows ms)))
        (∼_append (∼_same declared_rows_find)
        (like_through (∼_same (flat_map-append row_report (rows_at (codes "patternProperties") ms) (fused_rows ms)))
        (∼_append pattern_rows_find (∼_same fused_rows_find)))))

    -- name by name what the declared schemas find, and member by member the patterns and the rest
    pub claims_find : flat_map row_report claimed ∼ declared_found ++ flat_map others_find_it (members v) ++ others_found ++ required_found
    claims_find = like_through (∼_sym (∼_permuted row_report _ claimed (claims_restriction ms restricted distinct d there))) (like_through rows_find
        (like_through (found_in_order _ others_found declared_found _ required_found)
        (∼_behind required_found (∼_behind others_found (∼_before declared_found (∼_sym (∼_parts (matching_report I u fs es P Q) (rest_report I u fs es P Q d) (members v))))))))

    module _ (declared_once : has_repeat (names_of fs) ≡ false) (members_once : has_repeat (names_of (members v)) ≡ false) where
      found_by_member : declared_found ∼ flat_map (declared_report I u fs es P Q) (members v)
      found_by_member = ∼_other_side _ fs (members v) (Distinct-from fs declared_once) (Distinct-from (members v) members_once)

      pub claims_find_each : flat_map row_report claimed ∼ flat_map (each_report I u fs es P Q d) (members v) ++ others_found ++ required_found
      claims_find_each = like_through claims_find (∼_behind required_found (∼_behind others_found together))
        where
          together : declared_found ++ flat_map others_find_it (members v) ∼ flat_map (each_report I u fs es P Q d) (members v)
          together = like_through (∼_behind _ found_by_member) (like_through (∼_sym (∼_parts (declared_report I u fs es P Q) _ (members v)))
              (∼_same (λ i. flat_map (λ x. sym (append_assoc (declared_report I u fs es P Q x) (matching_report I u fs es P Q x) (rest_report I u fs es P Q d x)) i) (members v))))

  -- ---- how many matchers are asked

  abbrev row_asks : Name × Data → ℕ
  row_asks m = member_asks I ms m (keyword_named W m.0) u v

  -- of a member, by the patterns and their schemas
  abbrev patterns_ask_it : Name × Data → ℕ
  patterns_ask_it x = matching_asks I u fs es x + patterns_asked W fs es x.0

  -- by the declared schemas, name by name
  abbrev declared_asked : ℕ
  declared_asked = sum_by (λ e. sum_by (asks I u e.1) (at e.0 v)) fs

  declared_rows_ask : sum_by row_asks (rows_at (codes "properties") ms) ≡ declared_asked
  declared_rows_ask = sum_there (λ d. (codes "properties", d)) row_asks (λ o. sum_by (λ e. sum_by (asks I u e.1) (at e.0 v)) (entries_in o)) refl (λ d. declared_ask I ms d u v) _

  pattern_rows_ask : sum_by row_asks (rows_at (codes "patternProperties") ms) ≡ sum_by patterns_ask_it (members v)
  pattern_rows_ask = sum_there (λ d. (codes "patternProperties", d)) row_asks (λ o. sum_by (λ x. matching_asks I u fs (entries_in o) x + patterns_asked W fs (entries_in o) x.0) (members v))
      (sym ((λ i. sum_by (λ (x : Name × Data). either (is_declared_in fs x.0) i) (members v)) ∙ sum_of_none (members v)))
      (λ d. pattern_properties_asks_beside I ms d u v (restricted_read (I.means u) ms ∙ restricted)) _
    where
      either : (b : Bool) → 0 + cond b 0 0 ≡ 0
      either true = omega arith
      either false = omega arith

  fused_rows_ask : sum_by row_asks (fused_rows ms) ≡ 0
  fused_rows_ask = sum_there listing row_asks (λ o. 0) refl (λ n. required_asks I ms (listing n).1 u v) (fused_one ms)

  pub claims_ask : sum_by row_asks claimed ≡ declared_asked + sum_by patterns_ask_it (members v) + sum_by (rest_asks I u fs es d) (members v)
  claims_ask =
      let same = sum_by-IsPermutation row_asks _ claimed (claims_restriction ms restricted distinct d there) in
      let first = sum_by-cons row_asks (codes "additionalProperties", d) (rows_at (codes "properties") ms ++ (rows_at (codes "patternProperties") ms ++ fused_rows ms)) in
      let second = sum_by-append row_asks (rows_at (codes "properties") ms) (rows_at (codes "patternProperties") ms ++ fused_rows ms) in
      let third = sum_by-append row_asks (rows_at (codes "patternProperties") ms) (fused_rows ms) in
      let own = additional_asks I ms d u v in
      let declared = declared_rows_ask in
      let matching = pattern_rows_ask in
      let required = fused_rows_ask in
      omega (arith, same, first, second, third, own, declared, matching, required)

  module _ (declared_once : has_repeat (names_of fs) ≡ false) (members_once : has_repeat (names_of (members v)) ≡ false) where
    pub claims_ask_each : sum_by row_asks claimed ≡ sum_by (each_asks I u fs es d) (members v)
    claims_ask_each =
        let all = claims_ask in
        let declared = sum_by-other_side (λ s x. asks I u s x) fs (members v) (Distinct-from fs declared_once) (Distinct-from (members v) members_once) in
        let two = sum_of_both (declared_asks I u fs es) patterns_ask_it (members v) in
        let three = sum_of_both (λ x. declared_asks I u fs es x + patterns_ask_it x) (rest_asks I u fs es d) (members v) in
        omega (arith, all, declared, two, three)

-- ---- lists of trees

module _ {X Y : Type 0} where
  each_flat : (f g : X → List Y) (xs : List X) → Each (λ x. f x ≡ g x) xs → flat_map f xs ≡ flat_map g xs
  each_flat f g [] h = refl
  each_flat f g (x ∷ xs) h = λ i. h.0 i ++ each_flat f g xs h.1 i

shows_none : (b : Bool) (t : Tree) → b ≡ true → put_if (not b) t [] ≡ []
shows_none b t e = ap (λ c. put_if (not c) t []) e

module _ {W : World} (I : Steps W) (ms : Members) (u : Bool) (v : Data) (P Q : Path) where
  -- a schema, with its parts' meanings, to its own
  abbrev to_meaning : Schema Meaning → Meaning
  to_meaning = I.means u

  abbrev S : Keywords Meaning
  S = read_members to_meaning ms

  abbrev declared : Rows
  declared = declared_beside ms

  abbrev patterned : Rows
  patterned = patterns_beside ms

  -- ---- of a member

  declared_trees_read : (x : Name × Data) → declared_trees W u S v P Q x ≡ declared_shown I u declared patterned P Q x
  declared_trees_read x =
      ap (λ l. map (λ s. s.answer.tree x.1 (P // codes "properties" // x.0) (Q // x.0)) (option_to_list (lookup_name x.0 l))) (entries_beside to_meaning ms (codes "properties"))
      ∙ entry_shown I u v _ Q x declared

  pattern_trees_read : (x : Name × Data) → pattern_trees W u S v P Q x ≡ matching_shown I u declared patterned P Q x
  unfolding meaning
  pattern_trees_read x = ap (map _) (matching_read to_meaning ms W u x.0) ∙ map-map _ _ (entry to_meaning) (λ e. refl) _

  other_names_read : additional_names W u S v P Q ≡ other_names W u declared patterned v
  other_names_read = ap (map _) (additional_read to_meaning ms W u v)

  names_matched_read : matched_names W u S v P Q ≡ names_matched W u declared patterned v
  names_matched_read =
      λ i. flat_map (λ m. (ap (map (λ (e : Name × Subschema). m.0)) (matching_read to_meaning ms W u m.0) ∙ map-map (λ (e : Name × Subschema). m.0)
      (λ (e : Name × Data). m.0) (entry to_meaning) (λ e. refl) (matching_at W u patterned m.0)) i) (members v)

  -- a member is among the others if it is one
  others_there : Each (λ x. is_among x.0 (other_names W u declared patterned v) ≡ is_other W u declared patterned x.0) (members v)
  others_there = Each-implies _ _ (λ x h. is_among-filter_once _ x.0 (members v) ∙ ap (λ b. is_other W u declared patterned x.0 && b) h ∙ and-true _) _ (Each-among _)

  -- ---- `required` inside

  missing_read : fuses_one S ≡ is_some (fused_one ms) → missing_child W u S v P Q (fuses_one S) ≡ required_child ms v P Q
  missing_read h = ap (missing_child W u S v P Q) h ∙ by (fused_one ms) refl
    where
      by : (o : Option Name) → fused_one ms ≡ o → missing_child W u S v P Q (is_some o) ≡ put_if (not (is_empty (missing (option_to_list o) v)))
          (erring (P // codes "required") Q (required_faults (option_to_list o) v (P // codes "required") Q)) []
      by None e = refl
      by (Some n) e =
          ap (λ ns. put_if (not (is_empty (missing ns v))) (erring (P // codes "required") Q (required_faults ns v (P // codes "required") Q)) []) (fused_names_read to_meaning ms n e)

  -- ---- the child

  module _ (d : Data) where
    each_read : flat_map (λ m. declared_trees W u S v P Q m ++ pattern_trees W u S v P Q m ++ additional_trees W u S v P Q (codes "additionalProperties") (read to_meaning d) m)
        (members v) ≡ flat_map (each_shown I u declared patterned P Q d) (members v)
    unfolding meaning
    each_read =
        (λ i. flat_map (λ m. declared_trees_read m i ++ pattern_trees_read m i ++ put_if (is_object (whole_read to_meaning d i).schema && is_among m.0 (other_names_read i))
        ((whole_read to_meaning d i).answer.tree m.1 (P // codes "additionalProperties") (Q // m.0)) []) (members v))
        ∙ each_flat (λ m. declared_shown I u declared patterned P Q m ++ matching_shown I u declared patterned P Q m ++ put_if (is_object d && is_among m.0 (other_names W u declared patterned v))
        (tree I u d m.1 (P // codes "additionalProperties") (Q // m.0)) []) _ (members v) (Each-implies _ _
        (λ m h. ap (λ b. declared_shown I u declared patterned P Q m ++ matching_shown I u declared patterned P Q m ++ put_if (is_object d && b)
        (tree I u d m.1 (P // codes "additionalProperties") (Q // m.0)) []) h) _ others_there)

    pub additional_shows : is_restricted ms ≡ true → fuses_one S ≡ is_some (fused_one ms) → member_child I ms
        (codes "additionalProperties", d) additional_properties u v P Q ≡ restriction_shown I u ms v d P Q ∷ []
    additional_shows restricted fused = λ i. put_if ((restricted_read to_meaning ms ∙ restricted) i) (result (P // codes "additionalProperties") Q
        (cond (is_object v && (is_object (whole_read to_meaning d i).schema
        && (cond (present to_meaning ms (codes "properties") i) (present to_meaning ms (codes "patternProperties") i)
        (not (present to_meaning ms (codes "patternProperties") i)) || not (is_empty (other_names_read i))))) (Some (other_names_read i)) None)
        false (described (own_others I ms d u v P Q i))
        (each_read i ++ put_if (present to_meaning ms (codes "patternProperties") i && not (present to_meaning ms (codes "properties") i) && not (is_empty (names_matched_read i))) (node (P // codes "patternProperties") Q true (Some (names_matched_read i)) [] no_tree) [] ++ missing_read fused i)) []

    -- ---- what it takes over

    pub properties_show_none : is_restricted ms ≡ true → member_child I ms (codes "properties", d) properties u v P Q ≡ []
    properties_show_none restricted = shows_none _ _ (restricted_read to_meaning ms ∙ restricted)

    pub patterns_show_none : is_restricted ms ≡ true → member_child I ms (codes "patternProperties", d) pattern_properties u v P Q ≡ []
    patterns_show_none restricted = shows_none _ _ (restricted_read to_meaning ms ∙ restricted)

    pub required_shows_none : is_some (fused_one ms) ≡ true → member_child I ms (codes "required", d) required u v P Q ≡ []
    required_shows_none e = by (fused_one ms) refl e
      where
        by : (o : Option Name) → fused_one ms ≡ o → is_some o ≡ true → member_child I ms (codes "required", d) required u v P Q ≡ []
        by None q f = absurd (true≢false (sym f))
        by (Some n) q f = ap (λ b. put_if (not b && not (fuses_two S)) (erring (P // codes "required") Q
            (required_faults (texts (read to_meaning d).whole.schema) v (P // codes "required") Q)) []) (fused_reads to_meaning ms n q)
