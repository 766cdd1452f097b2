-- The references of a value, one step at a time, and lists of texts that grow by them.
use Rattle.std.proofs.Common.{◌≡◌, ℕ, ◌+◌, ◌<◌, ◌≤◌, false, List, [], ◌∷◌, ◌++◌, drop, length, slice_index_or as get_or, Bor, String, string_bytes, Global, refl, sym, ap, ◌∙◌, append-nil, append_assoc, true≢false}
use Rattle.std.proofs.lemmas.List.{drop_more, drop_all}
use Rattle.serde_json.specs.Data.{Data, object, array, string, Members}
use Rattle.serde_json.specs.Find.{as_str}
use Rattle.serde_json.specs.View.{view, members_view, items_view}
use Rattle.serde_json.specs.declared.value.Value.{Value}
use Rattle.std.specs.Prelude.{Some, None, unwrap_or, is_some}
use Rattle.olk_spec.specs.Names.{Text}
use Rattle.olk_spec.specs.Schemas.{is_object, is_array}
use Rattle.olk_drafts.specs.Keywords.{read_as}
use Rattle.olk_drafts.specs.References.{as_texts, text_of, references_by, references_at, references_of_members, references_of_entries, references_of_items, references_of_value, references_inside}
use Rattle.olk_drafts.specs.declared.drafts.Draft.{Draft}
use Rattle.olk_drafts.specs.declared.translation.Held.{Held}
use Rattle.olk_drafts.specs.declared.translation.Held.TheVariants.{Nothing, Itself, Entries, EntriesOfEntries}

pub text_found : (d : Data) (t : Text) → Some t ≡ as_str d → text_of d ≡ t ∷ []
text_found (string s) t e = ap (λ o. unwrap_or o t ∷ []) (sym e)
text_found _ t e = absurd (true≢false (ap is_some e))

pub no_text : (d : Data) → None ≡ as_str d → text_of d ≡ []
no_text (string s) e = absurd (true≢false (ap is_some (sym e)))
no_text _ e = refl

-- ---- lists that grow

pub none_appended : (ts : List (Bor Text)) {new : List Text} → new ≡ [] → as_texts ts ≡ as_texts ts ++ new
none_appended ts e = sym (append-nil (as_texts ts)) ∙ ap (λ l. as_texts ts ++ l) (sym e)

pub both_appended : (old between new : List (Bor Text)) (one other : List Text) → as_texts between ≡ as_texts old ++ one → as_texts new ≡ as_texts between ++ other → as_texts new ≡ as_texts old ++ (one ++ other)
both_appended old between new one other e f = f ∙ ap (λ l. l ++ other) e ∙ append_assoc (as_texts old) one other

-- here is appended, and rest is left
pub one_more : (done here rest : List Text) {new left all : List Text} → new ≡ done ++ here → left ≡ here ++ rest → done ++ left ≡ all → new ++ rest ≡ all
one_more done here rest e l h = ap (λ ts. ts ++ rest) e ∙ append_assoc done here rest ∙ ap (λ ts. done ++ ts) (sym l) ∙ h

pub all_appended : (done : List Text) {left all : List Text} → left ≡ [] → done ++ left ≡ all → done ≡ all
all_appended done l h = sym (append-nil done) ∙ ap (λ ts. done ++ ts) (sym l) ∙ h

-- ---- values

module _ (draft : Draft) where
  pub none_held : (d : Data) → references_at draft Nothing d ≡ []
  unfolding references_at
  none_held (object ms) = refl
  none_held (array ds) = refl
  none_held _ = refl

  pub entries_referring : (d : Data) → references_at draft Entries d ≡ references_inside draft Itself d
  unfolding references_at
  entries_referring (object ms) = refl
  entries_referring (array ds) = refl
  entries_referring _ = refl

  pub entries_of_entries_referring : (d : Data) → references_at draft EntriesOfEntries d ≡ references_inside draft Entries d
  unfolding references_at
  entries_of_entries_referring (object ms) = refl
  entries_of_entries_referring (array ds) = refl
  entries_of_entries_referring _ = refl

  pub object_referring : (ms : Members) → references_at draft Itself (object ms) ≡ references_of_members draft ms ms
  unfolding references_at
  object_referring ms = refl

  pub no_object_referring : (d : Data) → is_object d ≡ false → references_at draft Itself d ≡ []
  unfolding references_at
  no_object_referring (object ms) e = absurd (true≢false e)
  no_object_referring _ e = refl

  pub none_inside : (h : Held) (d : Data) → is_object d ≡ false → is_array d ≡ false → references_inside draft h d ≡ []
  none_inside h (object ms) e f = absurd (true≢false e)
  none_inside h (array ds) e f = absurd (true≢false f)
  none_inside h _ e f = refl

  module _ {n : String Global} {v : Value} {left rest : List (String Global × Value)} (steps : left ≡ (n, v) ∷ rest) where
    pub member_left : (all : Members) → references_of_members draft all (members_view left) ≡ references_by (read_as draft all (string_bytes n)) (references_of_value draft (view v)) ++ references_of_members draft all (members_view rest)
    unfolding references_at
    member_left all = ap (λ l. references_of_members draft all (members_view l)) steps

    pub entry_left : (h : Held) → references_of_entries draft h (members_view left) ≡ references_at draft h (view v) ++ references_of_entries draft h (members_view rest)
    unfolding references_at
    entry_left h = ap (λ l. references_of_entries draft h (members_view l)) steps

  pub no_member_left : {left : List (String Global × Value)} → left ≡ [] → (all : Members) → references_of_members draft all (members_view left) ≡ []
  unfolding references_at
  no_member_left e all = ap (λ l. references_of_members draft all (members_view l)) e

  pub no_entry_left : {left : List (String Global × Value)} → left ≡ [] → (h : Held) → references_of_entries draft h (members_view left) ≡ []
  unfolding references_at
  no_entry_left e h = ap (λ l. references_of_entries draft h (members_view l)) e

  module _ (h : Held) (i : ℕ) (vs : List Value) where
    pub item_left : {v : Value} → i < length vs → v ≡ get_or vs i v → references_of_items draft h (items_view (drop i vs)) ≡ references_at draft h (view v) ++ references_of_items draft h (items_view (drop (i + 1) vs))
    unfolding references_at
    item_left {v} l e = ap (λ l. references_of_items draft h (items_view l)) (drop_more vs i v l ∙ ap (λ w. w ∷ drop (i + 1) vs) (sym e))

    pub no_item_left : length vs ≤ i → references_of_items draft h (items_view (drop i vs)) ≡ []
    unfolding references_at
    no_item_left l = ap (λ l. references_of_items draft h (items_view l)) (drop_all i vs l)
