-- What a schema's keywords are, by the members of its data.
use Rattle.std.specs.Prelude.{◌≡◌, Bool, List, [], ◌∷◌, map, Option, Some, None, option_map, option_to_list, is_some}
use Rattle.std.specs.List.{flat_map}
use Rattle.std.specs.Ordering.{nat_cmp, match_ordering}
use Rattle.std.specs.Cmp.Lexicographic.{slice_cmp}
use Rattle.std.specs.declared.cmp.Ordering.{Ordering}
use Rattle.std.specs.declared.cmp.Ordering.TheVariants.{Equal}
use Rattle.std.proofs.Common.{refl, sym, ◌∙◌, ap}
use Rattle.std.proofs.lemmas.List.{append-nil}
use Rattle.serde_json.specs.Data.{Data, null, array, object, Items, no_items, item, Members, no_members, member}
use Rattle.serde_json.specs.Find.{get_member}
use Rattle.olk_spec.specs.Names.{Name, lookup_name, first_if_equal}
use Rattle.olk_spec.specs.Malformed.{items_list, items_of_array}
use Rattle.olk_spec.specs.Schemas.{Sub, Part, Schema, keywords, read, read_items, read_members, answer_for, whole_entries, inner_entries, whole_items, listed, members, texts, is_present, entries_at, names_at, wholes_at, numbered, branches, names}
use Rattle.olk_spec.specs.World.{World}
use Rattle.olk_spec.specs.Meaning.{meaning, meaning_step}

found_first : {X Y : Type 0} (f : X → Y) (o : Ordering) (x : X) (r : Option Y) (s : Option X) → r ≡ option_map f s → first_if_equal o (f x) r ≡ option_map f (match_ordering o s (Some x) s)
found_first f Equal x r s e = refl
found_first f _ x r s e = e

listed_first : {X : Type 0} (o : Ordering) (x : X) (r s : Option X) → r ≡ s → first_if_equal o x r ≡ match_ordering o s (Some x) s
listed_first Equal x r s e = refl
listed_first _ x r s e = e

-- the member that the code looks up
pub lookup_listed : (n : Name) (ms : Members) → lookup_name n (listed ms) ≡ get_member n ms
lookup_listed n no_members = refl
lookup_listed n (member k d ms) = listed_first (slice_cmp nat_cmp n k) d (lookup_name n _) (get_member n ms) (lookup_listed n ms)

module _ {X : Type 0} (step : Schema X → X) where
  -- a place, and an entry, by its data
  abbrev pub place : Data → Sub X
  place d = record { schema = d; answer = answer_for step d }

  abbrev pub entry : Name × Data → Name × Sub X
  entry m = (m.0, place m.1)

  abbrev pub inner_entry : Name × Data → Name × List (Name × Sub X)
  inner_entry m = (m.0, map entry (members m.1))

  abbrev pub keyword_part : Name × Data → Name × Part X
  keyword_part m = (m.0, read step m.1)

  pub whole_read : (d : Data) → (read step d).whole ≡ place d
  whole_read null = refl
  whole_read _ = refl

  pub schema_of_read : (d : Data) → (read step d).whole.schema ≡ d
  schema_of_read d = ap (λ s. s.schema) (whole_read d)

  pub members_read : (ms : Members) → read_members step ms ≡ map keyword_part (listed ms)
  members_read no_members = refl
  members_read (member n d ms) = ap (λ ps. (n, read step d) ∷ ps) (members_read ms)

  whole_entries_read : (ms : Members) → whole_entries (read_members step ms) ≡ map entry (listed ms)
  whole_entries_read no_members = refl
  whole_entries_read (member n d ms) = λ i. (n, whole_read d i) ∷ whole_entries_read ms i

  pub entries_read : (d : Data) → (read step d).entries ≡ map entry (members d)
  entries_read (object ms) = whole_entries_read ms
  entries_read _ = refl

  inner_entries_read : (ms : Members) → inner_entries (read_members step ms) ≡ map inner_entry (listed ms)
  inner_entries_read no_members = refl
  inner_entries_read (member n d ms) = λ i. (n, entries_read d i) ∷ inner_entries_read ms i

  pub inner_read : (d : Data) → (read step d).inner ≡ map inner_entry (members d)
  inner_read (object ms) = inner_entries_read ms
  inner_read _ = refl

  whole_items_read : (ds : Items) → whole_items (read_items step ds) ≡ map place (items_list ds)
  whole_items_read no_items = refl
  whole_items_read (item d ds) = λ i. whole_read d i ∷ whole_items_read ds i

  pub items_read : (d : Data) → (read step d).items ≡ map place (items_of_array d)
  items_read (array ds) = whole_items_read ds
  items_read _ = refl

  pub branches_read : (d : Data) → branches (read step d) ≡ numbered (map place (items_of_array d))
  branches_read d = ap numbered (items_read d)

  pub names_read : (d : Data) → names (read step d) ≡ texts d
  names_read d = ap texts (schema_of_read d)

  -- ---- the neighbour k of a keyword

  pub lookup_read : (k : Name) (ms : Members) → lookup_name k (read_members step ms) ≡ option_map (read step) (get_member k ms)
  lookup_read k no_members = refl
  lookup_read k (member n d ms) = found_first (read step) (slice_cmp nat_cmp k n) d (lookup_name k _) (get_member k ms) (lookup_read k ms)

  present_of : (o : Option Data) → is_some (option_map (read step) o) ≡ is_some o
  present_of None = refl
  present_of (Some d) = refl

  module _ (ms : Members) (k : Name) where
    pub is_present_read : is_present (read_members step ms) k ≡ is_some (get_member k ms)
    is_present_read = ap is_some (lookup_read k ms) ∙ present_of (get_member k ms)

    wholes_of : (o : Option Data) → map (λ p. p.whole) (option_to_list (option_map (read step) o)) ≡ map place (option_to_list o)
    wholes_of None = refl
    wholes_of (Some d) = λ i. whole_read d i ∷ []

    pub wholes_at_read : wholes_at (read_members step ms) k ≡ map place (option_to_list (get_member k ms))
    wholes_at_read = ap (λ o. map (λ p. p.whole) (option_to_list o)) (lookup_read k ms) ∙ wholes_of (get_member k ms)

    entries_of : (o : Option Data) → flat_map (λ p. p.entries) (option_to_list (option_map (read step) o)) ≡ flat_map (λ d. map entry (members d)) (option_to_list o)
    entries_of None = refl
    entries_of (Some d) = append-nil ((read step d).entries) ∙ entries_read d ∙ sym (append-nil (map entry (members d)))

    pub entries_at_read : entries_at (read_members step ms) k ≡ flat_map (λ d. map entry (members d)) (option_to_list (get_member k ms))
    entries_at_read = ap (λ o. flat_map (λ p. p.entries) (option_to_list o)) (lookup_read k ms) ∙ entries_of (get_member k ms)

    names_of : (o : Option Data) → flat_map names (option_to_list (option_map (read step) o)) ≡ flat_map texts (option_to_list o)
    names_of None = refl
    names_of (Some d) = append-nil (names (read step d)) ∙ names_read d ∙ sym (append-nil (texts d))

    pub names_at_read : names_at (read_members step ms) k ≡ flat_map texts (option_to_list (get_member k ms))
    names_at_read = ap (λ o. flat_map names (option_to_list o)) (lookup_read k ms) ∙ names_of (get_member k ms)

    -- where d stands there, or nothing
    module _ (d : Data) (e : get_member k ms ≡ Some d) where
      pub wholes_there : wholes_at (read_members step ms) k ≡ place d ∷ []
      wholes_there = wholes_at_read ∙ ap (λ o. map place (option_to_list o)) e

      pub entries_there : entries_at (read_members step ms) k ≡ map entry (members d)
      entries_there = entries_at_read ∙ ap (λ o. flat_map (λ x. map entry (members x)) (option_to_list o)) e ∙ append-nil (map entry (members d))

      pub names_there : names_at (read_members step ms) k ≡ texts d
      names_there = names_at_read ∙ ap (λ o. flat_map texts (option_to_list o)) e ∙ append-nil (texts d)

    module _ (e : get_member k ms ≡ None) where
      pub wholes_absent : wholes_at (read_members step ms) k ≡ []
      wholes_absent = wholes_at_read ∙ ap (λ o. map place (option_to_list o)) e

-- one level of the recursion
pub meaning_of_object : (W : World) (u : Bool) (ms : Members) → meaning W u (object ms) ≡ meaning_step W u (keywords (read_members (meaning_step W u) ms))
unfolding meaning
meaning_of_object W u ms = refl
