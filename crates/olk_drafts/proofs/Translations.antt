-- One step of a translation.
use Rattle.std.proofs.Common.{◌≡◌, ℕ, ◌≤◌, false, List, [], ◌∷◌, map, take, length, String, string_bytes, Global, cond, refl, sym, ap, ◌∙◌, true≢false}
use Rattle.std.proofs.lemmas.List.{take_all}
use Rattle.serde_json.specs.Data.{Data, string, object, array, Members, no_members, put, item}
use Rattle.serde_json.specs.View.{view, members_view, items_view, items_of}
use Rattle.serde_json.specs.declared.value.Value.{Value}
use Rattle.olk_spec.specs.Names.{Text}
use Rattle.olk_spec.specs.Schemas.{is_array, is_object}
use Rattle.olk_drafts.specs.Keywords.{read_as}
use Rattle.olk_drafts.specs.Translated.{integer_of_draft_4, names_integer, kind_of_draft_4, listed_kinds_of_draft_4, kinds_of_draft_4, put_as, translated_at, translated_members, translated_entries, translated_items, translated_value, translated_inside}
use Rattle.olk_drafts.specs.declared.drafts.Draft.{Draft}
use Rattle.olk_drafts.specs.declared.translation.Held.{Held}
use Rattle.olk_drafts.specs.declared.translation.Held.TheVariants.{Nothing, Itself, Entries, EntriesOfEntries}

module _ (draft : Draft) (R : Text → Text) where
  pub nothing_held : (d : Data) → translated_at draft R Nothing d ≡ d
  unfolding translated_at
  nothing_held (object ms) = refl
  nothing_held (array ds) = refl
  nothing_held _ = refl

  pub entries_held : (d : Data) → translated_at draft R Entries d ≡ translated_inside draft R Itself d
  unfolding translated_at
  entries_held (object ms) = refl
  entries_held (array ds) = refl
  entries_held _ = refl

  pub entries_of_entries_held : (d : Data) → translated_at draft R EntriesOfEntries d ≡ translated_inside draft R Entries d
  unfolding translated_at
  entries_of_entries_held (object ms) = refl
  entries_of_entries_held (array ds) = refl
  entries_of_entries_held _ = refl

  pub object_translated : (ms : Members) → translated_at draft R Itself (object ms) ≡ object (translated_members draft R ms ms no_members)
  unfolding translated_at
  object_translated ms = refl

  -- a schema that is no object stays as it is
  pub no_object_translated : (d : Data) → is_object d ≡ false → translated_at draft R Itself d ≡ d
  unfolding translated_at
  no_object_translated (object ms) e = absurd (true≢false e)
  no_object_translated _ e = refl

  pub nothing_inside : (h : Held) (d : Data) → is_object d ≡ false → is_array d ≡ false → translated_inside draft R h d ≡ d
  nothing_inside h (object ms) e f = absurd (true≢false e)
  nothing_inside h (array ds) e f = absurd (true≢false f)
  nothing_inside h _ e f = refl

  -- ---- loops: what is done with what is left to put

  module _ {n : String Global} {v : Value} {left rest : List (String Global × Value)} (steps : left ≡ (n, v) ∷ rest) where
    pub one_more_member : (all done : Members) {new : Members} → new ≡ put_as (read_as draft all (string_bytes n)) (translated_value draft R (view v)) done
        → translated_members draft R all (members_view rest) new ≡ translated_members draft R all (members_view left) done
    unfolding translated_at
    one_more_member all done e = ap (translated_members draft R all (members_view rest)) e ∙ sym (ap (λ l. translated_members draft R all (members_view l) done) steps)

    pub one_more_entry : (h : Held) (done : Members) {new : Members} → new ≡ put (string_bytes n) (translated_at draft R h (view v)) done
        → translated_entries draft R h (members_view rest) new ≡ translated_entries draft R h (members_view left) done
    unfolding translated_at
    one_more_entry h done e = ap (translated_entries draft R h (members_view rest)) e ∙ sym (ap (λ l. translated_entries draft R h (members_view l) done) steps)

  pub no_more_members : {left : List (String Global × Value)} → left ≡ [] → (all done : Members) → done ≡ translated_members draft R all (members_view left) done
  unfolding translated_at
  no_more_members e all done = sym (ap (λ l. translated_members draft R all (members_view l) done) e)

  pub no_more_entries : {left : List (String Global × Value)} → left ≡ [] → (h : Held) (done : Members) → done ≡ translated_entries draft R h (members_view left) done
  unfolding translated_at
  no_more_entries e h done = sym (ap (λ l. translated_entries draft R h (members_view l) done) e)

  abbrev pub item_translated : Held → Value → Data
  item_translated h v = translated_at draft R h (view v)

  pub items_translated : (h : Held) (vs : List Value) → items_of (map (item_translated h) vs) ≡ translated_items draft R h (items_view vs)
  unfolding translated_at
  items_translated h [] = refl
  items_translated h (v ∷ vs) = ap (λ ds. item (translated_at draft R h (view v)) ds) (items_translated h vs)

pub all_items : (f : Value → Data) (done vs : List Value) (i : ℕ) → map view done ≡ map f (take i vs) → length vs ≤ i → items_view done ≡ items_of (map f vs)
all_items f done vs i e l = ap items_of (e ∙ ap (map f) (take_all i vs l))

-- ---- the kinds of draft 4

abbrev pub kind_read : Value → Data
kind_read v = kind_of_draft_4 (view v)

pub kinds_listed : (vs : List Value) → items_of (map kind_read vs) ≡ listed_kinds_of_draft_4 (items_view vs)
kinds_listed [] = refl
kinds_listed (v ∷ vs) = ap (item (kind_read v)) (kinds_listed vs)

pub other_kind : (d : Data) → names_integer d ≡ false → kind_of_draft_4 d ≡ d
other_kind d e = ap (λ b. cond b (string integer_of_draft_4) d) e

pub one_kind : (d : Data) → is_array d ≡ false → kinds_of_draft_4 d ≡ kind_of_draft_4 d
one_kind (array ds) e = absurd (true≢false e)
one_kind _ e = refl
