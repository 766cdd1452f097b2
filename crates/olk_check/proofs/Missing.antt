-- Names that an object lacks.
use Rattle.std.proofs.Common.{◌≡◌, ℕ, ◌+◌, ◌<◌, ◌≤◌, Bool, true, false, not, ◌&&◌, List, [], ◌∷◌, length, get_or, drop, None, String, Global, string_bytes, refl, sym, ap, ◌∙◌}
use Rattle.std.proofs.lemmas.List.{at_drop_more, drop_all}
use Rattle.serde_json.specs.Data.{Data, object, Members}
use Rattle.serde_json.specs.Find.{as_object}
use Rattle.olk_spec.specs.Names.{Name, put_if, is_empty}
use Rattle.olk_spec.specs.Schemas.{has}
use Rattle.olk_spec.specs.Accepts.{missing}
use Rattle.olk_tree.specs.Maps.{texts_of}

-- of a list of names those before i are members
pub record Lacks (names : List (String Global)) (i : ℕ) (ms : Members) : Type 0 where
  pub as_left : is_empty (missing (texts_of names) (object ms)) ≡ is_empty (missing (texts_of (drop i names)) (object ms))

left_at : {names : List (String Global)} {i : ℕ} {x : String Global} {ys : List (String Global)} → ys ≡ names → x ≡ get_or ys i x → i < length ys → drop i names ≡ x ∷ drop (i + 1) names
left_at {names} {i} {x} {ys} same is lt = at_drop_more (λ l. l) names i x (rw same at lt) ∙ ap (λ y. y ∷ drop (i + 1) names) (sym (is ∙ ap (λ l. get_or l i x) same))

module _ {names : List (String Global)} {ms : Members} where
  pub lacks_start : Lacks names 0 ms
  lacks_start = record { as_left = refl }

  module _ {i : ℕ} where
    pub lacks_end : Lacks names i ms → length names ≤ i → true ≡ is_empty (missing (texts_of names) (object ms))
    lacks_end h le = sym (h.as_left ∙ ap (λ l. is_empty (missing (texts_of l) (object ms))) (drop_all i names le))

    pub lacks_more : {x : String Global} {ys : List (String Global)} {n : Name} → Lacks names i ms → n ≡ string_bytes x → true ≡ has n (object ms)
        → ys ≡ names → x ≡ get_or ys i x → i < length ys → Lacks names (i + 1) ms
    lacks_more {x} {ys} {n} h name e same is lt = record {
      as_left =
          h.as_left ∙ ap (λ l. is_empty (missing (texts_of l) (object ms))) (left_at same is lt)
          ∙ ap (λ b. is_empty (put_if (not b) (string_bytes x) (missing (texts_of (drop (i + 1) names)) (object ms)))) (ap (λ k. has k (object ms)) (sym name) ∙ sym e);
    }

    pub lacks_stop : {x : String Global} {ys : List (String Global)} {n : Name} → Lacks names i ms → n ≡ string_bytes x → false ≡ has n (object ms)
        → ys ≡ names → x ≡ get_or ys i x → i < length ys → false ≡ is_empty (missing (texts_of names) (object ms))
    lacks_stop {x} {ys} {n} h name e same is lt =
        sym (h.as_left ∙ ap (λ l. is_empty (missing (texts_of l) (object ms))) (left_at same is lt)
        ∙ ap (λ b. is_empty (put_if (not b) (string_bytes x) (missing (texts_of (drop (i + 1) names)) (object ms)))) (ap (λ k. has k (object ms)) (sym name) ∙ sym e))

-- of one name, and of two
one_there : (p : Bool) (n : Name) → p ≡ is_empty (put_if (not p) n [])
one_there true n = refl
one_there false n = refl

pub one_met : {p x : Bool} (n : Name) → x ≡ p → x ≡ is_empty (put_if (not p) n [])
one_met {p} n e = e ∙ one_there p n

both_there : (p q : Bool) (m n : Name) → (p && q) ≡ is_empty (put_if (not p) m (put_if (not q) n []))
both_there true true m n = refl
both_there _ _ m n = refl

pub both_met : {p q x y : Bool} (m n : Name) → x ≡ p → y ≡ q → (x && y) ≡ is_empty (put_if (not p) m (put_if (not q) n []))
both_met {p} {q} m n e f = (λ i. e i && f i) ∙ both_there p q m n

-- what is no object lacks nothing
pub lacks_nothing : (ns : List Name) (v : Data) → None ≡ as_object v → is_empty (missing ns v) ≡ true
lacks_nothing [] v e = refl
lacks_nothing (n ∷ ns) (object ms) e = cc
lacks_nothing (n ∷ ns) v e = lacks_nothing ns v e

pub ruleset lacking = (lacks_start, lacks_end)
