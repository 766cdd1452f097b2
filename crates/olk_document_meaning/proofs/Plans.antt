-- What is decided for an object, and known of the neighbours in it, is the same without the document's own members.
use Rattle.std.proofs.Common.{◌≡◌, Bool, true, false, ◌||◌, List, [], ◌∷◌, map, codes, bytes_eq, Option, Some, refl, sym, ◌∙◌, ap}
use Rattle.serde_json.specs.Data.{Data, Members}
use Rattle.olk_spec.specs.Names.{Name, lookup_name, is_among, put_if}
use Rattle.olk_spec.specs.Malformed.{has_repeat}
use Rattle.olk_spec.specs.Schemas.{listed}
use Rattle.olk_spec.proofs.Walks.{neither}
use Rattle.olk_meaning.specs.Conditions.{Known, known_of, IsKnown, is_conditional_name, is_condition}
use Rattle.olk_meaning.specs.Plans.{plan_of}
use Rattle.olk_document_spec.specs.Keywords.{is_other}
use Rattle.olk_document_meaning.specs.Layers.{others, layer_members}
use Rattle.olk_document_meaning.proofs.Others.{found_among_others, others_listed}

abbrev pub names_in : {X : Type 0} → List (Name × X) → List Name
names_in ms = map (λ m. m.0) ms

module _ {X : Type 0} where
  absent_among_others : (n : Name) (ms : List (Name × X)) → is_among n (names_in ms) ≡ false → is_among n (names_in (others ms)) ≡ false
  absent_among_others n [] e = refl
  absent_among_others n (m ∷ ms) e = let p = neither (bytes_eq n m.0) (is_among n (names_in ms)) e in by (is_other m.0) p.0 (absent_among_others n ms p.1)
    where
      by : (b : Bool) → bytes_eq n m.0 ≡ false → is_among n (names_in (others ms)) ≡ false → is_among n (names_in (put_if b m (others ms))) ≡ false
      by true q h = λ i. q i || h i
      by false q h = h

  pub others_distinct : (ms : List (Name × X)) → has_repeat (names_in ms) ≡ false → has_repeat (names_in (others ms)) ≡ false
  others_distinct [] e = refl
  others_distinct (m ∷ ms) e = let p = neither (is_among m.0 (names_in ms)) (has_repeat (names_in ms)) e in by (is_other m.0) (absent_among_others m.0 ms p.0) (others_distinct ms p.1)
    where
      by : (b : Bool) → is_among m.0 (names_in (others ms)) ≡ false → has_repeat (names_in (others ms)) ≡ false → has_repeat (names_in (put_if b m (others ms))) ≡ false
      by true q h = λ i. q i || h i
      by false q h = h

module _ (ms : Members) where
  pub found_in_layer : (k : Name) → is_other k ≡ true → lookup_name k (listed (layer_members ms)) ≡ lookup_name k (listed ms)
  found_in_layer k e = ap (lookup_name k) (others_listed ms) ∙ found_among_others k e (listed ms)

  pub layer_distinct : has_repeat (names_in (listed ms)) ≡ false → has_repeat (names_in (listed (layer_members ms))) ≡ false
  layer_distinct e = ap (λ l. has_repeat (names_in l)) (others_listed ms) ∙ others_distinct (listed ms) e

  pub same_plan : plan_of (layer_members ms) ≡ plan_of ms
  same_plan = rw (found_in_layer (codes "properties") refl) rw (found_in_layer (codes "patternProperties") refl) rw (found_in_layer (codes "additionalProperties") refl) rw (found_in_layer (codes "required") refl)
      rw (found_in_layer (codes "if") refl) rw (found_in_layer (codes "then") refl) rw (found_in_layer (codes "else") refl) refl

  pub same_known : known_of (layer_members ms) ≡ known_of ms
  same_known = rw (found_in_layer (codes "properties") refl) rw (found_in_layer (codes "additionalProperties") refl)
      rw (found_in_layer (codes "if") refl) rw (found_in_layer (codes "then") refl) rw (found_in_layer (codes "else") refl) refl

  -- a member that the layer reads is one of these
  pub layer_member : (m : Name × Data) → is_other m.0 ≡ true → lookup_name m.0 (listed ms) ≡ Some m.1 → lookup_name m.0 (listed (layer_members ms)) ≡ Some m.1
  layer_member m e h = found_in_layer m.0 e ∙ h
