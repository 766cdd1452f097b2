-- Steps that are alike at each schema object of some kind give the same for a schema of that kind.
use Rattle.std.proofs.Common.{◌≡◌, Bool, true, false, ◌&&◌, [], ◌∷◌, refl, sym, ap, ◌∙◌, true≢false}
use Rattle.std.specs.List.{list_all}
use Rattle.serde_json.specs.Data.{Data, null, boolean, number, string, array, object, Items, no_items, item, Members, no_members, member}
use Rattle.olk_spec.specs.Schemas.{Schema, truth, keywords, no_schema, Keywords, Part, read, read_items, read_members, object_part, whole_entries, inner_entries, whole_items, answer_for}
use Rattle.olk_spec.proofs.Induction.{EachItem, EachMember}
use Rattle.olk_document_spec.specs.Keywords.{is_other}
use Rattle.olk_document_spec.specs.Plain.{is_plain, are_plain, are_members_plain}

module _ {X : Type 0} (f g : Schema X → X) where
  -- Fine: a fact of the data at a place, which the data inside then has too
  module _ (Fine : Data → Type 0) (fine_items : (ds : Items) → Fine (array ds) → EachItem Fine ds) (fine_members : (ms : Members) → Fine (object ms) → EachMember Fine ms)
      (at_truth : (b : Bool) → f (truth b) ≡ g (truth b)) (at_none : (d : Data) → f (no_schema d) ≡ g (no_schema d))
      (at_keywords : (ms : Members) → Fine (object ms) → f (keywords (read_members g ms)) ≡ g (keywords (read_members g ms))) where
    abbrev part_of : Data → X → Part X
    part_of d x = record { whole = record { schema = d; answer = x }; entries = []; inner = []; items = [] }

    mutual
      read_alike : (d : Data) → Fine d → read f d ≡ read g d
      read_alike null e = ap (part_of null) (at_none null)
      read_alike (boolean b) e = ap (part_of (boolean b)) (at_truth b)
      read_alike (number n) e = ap (part_of (number n)) (at_none (number n))
      read_alike (string s) e = ap (part_of (string s)) (at_none (string s))
      read_alike (array ds) e = λ i. record { whole = record { schema = array ds; answer = at_none (array ds) i }; entries = []; inner = []; items = whole_items (items_alike ds (fine_items ds e) i) }
      read_alike (object ms) e =
          ap (object_part f ms) (members_alike ms (fine_members ms e))
          ∙ ap (λ x. record { whole = record { schema = object ms; answer = x }; entries = whole_entries (read_members g ms); inner = inner_entries (read_members g ms); items = [] })
          (at_keywords ms e)

      items_alike : (ds : Items) → EachItem Fine ds → read_items f ds ≡ read_items g ds
      items_alike no_items e = refl
      items_alike (item d ds) e = λ i. read_alike d e.0 i ∷ items_alike ds e.1 i

      members_alike : (ms : Members) → EachMember Fine ms → read_members f ms ≡ read_members g ms
      members_alike no_members e = refl
      members_alike (member n d ms) e = λ i. (n, read_alike d e.0 i) ∷ members_alike ms e.1 i

    pub answer_alike : (d : Data) → Fine d → answer_for f d ≡ answer_for g d
    answer_alike d e = ap (λ p. p.whole.answer) (read_alike d e)

-- ---- where no name is a document's

pub both_true : (a b : Bool) → (a && b) ≡ true → (a ≡ true) × (b ≡ true)
both_true true true e = (refl, refl)
both_true true false e = absurd (true≢false (sym e))
both_true false b e = absurd (true≢false (sym e))

abbrev IsPlain : Data → Type 0
IsPlain d = is_plain d ≡ true

plain_items : (ds : Items) → are_plain ds ≡ true → EachItem IsPlain ds
plain_items no_items e = tt
plain_items (item d ds) e = let b = both_true (is_plain d) (are_plain ds) e in (b.0, plain_items ds b.1)

plain_members : (ms : Members) → are_members_plain ms ≡ true → EachMember IsPlain ms
plain_members no_members e = tt
plain_members (member n d ms) e =
    let b = both_true (is_other n) (is_plain d && are_members_plain ms) e in
    let c = both_true (is_plain d) (are_members_plain ms) b.1 in
    (c.0, plain_members ms c.1)

module _ {X : Type 0} (f g : Schema X → X) where
  names_plain : (ms : Members) → are_members_plain ms ≡ true → list_all (λ m. is_other m.0) (read_members g ms) ≡ true
  names_plain no_members e = refl
  names_plain (member n d ms) e =
      let b = both_true (is_other n) (is_plain d && are_members_plain ms) e in
      let c = both_true (is_plain d) (are_members_plain ms) b.1 in
      λ i. b.0 i && names_plain ms c.1 i

  pub plain_alike : ((b : Bool) → f (truth b) ≡ g (truth b)) → ((d : Data) → f (no_schema d) ≡ g (no_schema d)) → ((S : Keywords X) → list_all (λ m. is_other m.0) S ≡ true → f (keywords S) ≡ g (keywords S))
      → (d : Data) → IsPlain d → answer_for f d ≡ answer_for g d
  plain_alike at_truth at_none at_keywords d e = answer_alike f g IsPlain plain_items plain_members at_truth at_none (λ ms p. at_keywords (read_members g ms) (names_plain ms p)) d e
