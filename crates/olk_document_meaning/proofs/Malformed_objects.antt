-- What makes a schema object of a document malformed: what does in the object for the layer, and what does in the document's own members.
use Rattle.std.proofs.Common.{◌≡◌, Bool, true, false, not, cond, List, [], ◌∷◌, ◌++◌, length, Contains, IsPermutation, refl, sym, ◌∙◌, ap, subst, append_assoc, arith}
use Rattle.std.specs.List.{flat_map}
use Rattle.std.proofs.lemmas.List.Elements.{Contains-append_left, Contains-append_right}
use Rattle.std.proofs.lemmas.List.Sorted.{IsPermutation-refl, IsPermutation-append_left, IsPermutation-append_right, IsPermutation-append_comm, IsPermutation-trans, Contains-permutation, length_permutation}
use Rattle.serde_json.specs.Data.{Data, object, Members}
use Rattle.olk_spec.specs.Names.{Name, Path, lookup_name, put_if}
use Rattle.olk_spec.specs.World.{World}
use Rattle.olk_spec.specs.Faults.{Fault}
use Rattle.olk_spec.specs.Malformed.{keyword_malformations}
use Rattle.olk_spec.specs.Schemas.{Keywords, read, read_members, listed}
use Rattle.olk_spec.specs.Vocabulary.{keyword_named}
use Rattle.olk_spec.proofs.Maps.{flat_map-map}
use Rattle.olk_spec.proofs.Reading.{members_read}
use Rattle.olk_meaning.specs.Members.{member_malformations}
use Rattle.olk_meaning.specs.Steps.{Steps, malformations_at}
use Rattle.olk_document_spec.specs.Keywords.{beneath, is_other}
use Rattle.olk_document_spec.specs.Malformed.{member_malformed}
use Rattle.olk_document_meaning.specs.Layers.{others, owns, layer_members}
use Rattle.olk_document_meaning.specs.Places.{Referred}
use Rattle.olk_document_meaning.specs.Rows.{row_malformations}
use Rattle.olk_document_meaning.proofs.Document_steps.{document_steps}
use Rattle.olk_document_meaning.proofs.Neighbours.{Alike, malformations_beside}
use Rattle.olk_document_meaning.proofs.Others.{found_among_others, others_read, others_listed, named_alike}

-- a list whose items are of two kinds, kind by kind
module _ {X Y : Type 0} (a b : Name × X → List Y) where
  abbrev by_kind : Name × X → List Y
  by_kind m = cond (is_other m.0) (a m) (b m)

  parted : (ms : List (Name × X)) → IsPermutation (flat_map a (others ms) ++ flat_map b (owns ms)) (flat_map by_kind ms)
  parted [] = IsPermutation-refl []
  parted (m ∷ ms) = by (is_other m.0) (parted ms)
    where
      by : (t : Bool) → IsPermutation (flat_map a (others ms) ++ flat_map b (owns ms)) (flat_map by_kind ms)
          → IsPermutation (flat_map a (put_if t m (others ms)) ++ flat_map b (put_if (not t) m (owns ms))) (cond t (a m) (b m) ++ flat_map by_kind ms)
      by true h = subst (λ l. IsPermutation l (a m ++ flat_map by_kind ms)) (sym (append_assoc (a m) (flat_map a (others ms)) (flat_map b (owns ms)))) (IsPermutation-append_right (a m) _ _ h)
      by false h = IsPermutation-trans _ _ _
          (subst (λ l. IsPermutation l ((b m ++ flat_map a (others ms)) ++ flat_map b (owns ms))) (append_assoc (flat_map a (others ms)) (b m) (flat_map b (owns ms)))
          (IsPermutation-append_left (flat_map b (owns ms)) _ _ (IsPermutation-append_comm (flat_map a (others ms)) (b m))))
          (subst (λ l. IsPermutation l (b m ++ flat_map by_kind ms)) (sym (append_assoc (b m) (flat_map a (others ms)) (flat_map b (owns ms)))) (IsPermutation-append_right (b m) _ _ h))

no_length : {X : Type 0} (xs : List X) → length xs ≡ 0 → xs ≡ []
no_length [] e = refl
no_length (x ∷ xs) e = absurd (grind (arith, e))

module _ (W : World) (R : Referred) (ms : Members) (P : Path) where
  abbrev I : Steps W
  I = document_steps W R

  abbrev ls : Members
  ls = layer_members ms

  abbrev S : Keywords (Path → List Fault)
  S = read_members I.refuses ms

  -- what is wrong with the members that the layer reads, and with the document's own
  abbrev pub layer_malformed : List Fault
  layer_malformed = flat_map (λ m. member_malformations I ls m (keyword_named W m.0) P) (listed ls)

  abbrev pub own_malformed : List Fault
  own_malformed = flat_map (λ m. row_malformations W R ms m P) (owns (listed ms))

  alike : Alike S (read_members I.refuses ls)
  alike k e = ap (lookup_name k) (others_read I.refuses ms) ∙ found_among_others k e S

  member_alike : (m : Name × Data) → member_malformed W R.refuses S m.0 (read I.refuses m.1) P
      ≡ by_kind (λ m. member_malformations I ls m (keyword_named W m.0) P) (λ m. row_malformations W R ms m P) m
  member_alike m = by (is_other m.0) refl
    where
      by : (t : Bool) → is_other m.0 ≡ t → cond t (keyword_malformations (beneath W) S m.0 (read I.refuses m.1) P (keyword_named (beneath W) m.0)) (row_malformations W R ms m P)
          ≡ cond t (member_malformations I ls m (keyword_named W m.0) P) (row_malformations W R ms m P)
      by true e = ap (keyword_malformations W S m.0 (read I.refuses m.1) P) (named_alike W m.0 e) ∙ sym (malformations_beside W S (read_members I.refuses ls) alike m.0 (read I.refuses m.1) P (keyword_named W m.0))
      by false e = refl

  by_members : malformations_at I (object ms) P ≡ flat_map (by_kind (λ m. member_malformations I ls m (keyword_named W m.0) P) (λ m. row_malformations W R ms m P)) (listed ms)
  unfolding malformations_at
  by_members = ap (flat_map (λ m. member_malformed W R.refuses S m.0 m.1 P)) (members_read I.refuses ms)
      ∙ flat_map-map _ _ _ (λ m. refl) (listed ms) ∙ (λ i. flat_map (λ m. member_alike m i) (listed ms))

  -- the object is malformed as its members are, up to order
  pub object_malformed : IsPermutation (layer_malformed ++ own_malformed) (malformations_at I (object ms) P)
  object_malformed = subst (λ l. IsPermutation (flat_map (λ m. member_malformations I ls m (keyword_named W m.0) P) l ++ own_malformed) (malformations_at I (object ms) P)) (sym (others_listed ms))
      (subst (λ l. IsPermutation (flat_map (λ m. member_malformations I ls m (keyword_named W m.0) P) (others (listed ms)) ++ own_malformed) l) (sym by_members)
      (parted (λ m. member_malformations I ls m (keyword_named W m.0) P) (λ m. row_malformations W R ms m P) (listed ms)))

  pub object_clean : layer_malformed ≡ [] → own_malformed ≡ [] → malformations_at I (object ms) P ≡ []
  object_clean e f = no_length (malformations_at I (object ms) P) (length_permutation _ _ object_malformed ∙ (λ i. length (e i ++ f i)))

  pub layer_told : (f : Fault) → Contains layer_malformed f → Contains (malformations_at I (object ms) P) f
  layer_told f h = Contains-permutation _ _ f object_malformed (Contains-append_left layer_malformed own_malformed f h)

  pub own_told : (f : Fault) → Contains own_malformed f → Contains (malformations_at I (object ms) P) f
  own_told f h = Contains-permutation _ _ f object_malformed (Contains-append_right layer_malformed own_malformed f h)
