-- What is told of names of members that are not expected.
use Rattle.std.proofs.Common.{◌≡◌, ℕ, zero, suc, ◌<◌, ◌==◌, length, Bool, true, false, not, List, [], ◌∷◌, map, get_or, refl, sym, ap, subst, ◌∙◌, arith, Result, Ok}
use Rattle.std.proofs.lemmas.Bool.Decides.{nat_tests}
use Rattle.std.specs.List.{Contains}
use Rattle.serde_json.specs.Data.{Data}
use Rattle.olk_spec.specs.Names.{Name, Path, put_if, is_empty}
use Rattle.olk_spec.specs.Faults.{Fault, AdditionalProperties, IsLike}
use Rattle.olk_spec.specs.Reports.{unexpected_faults}
use Rattle.olk_spec.proofs.Order.{like_itself}
use Rattle.olk_errors.specs.Found.{Appends, IsLikeOneOf, IsKeptOf}
use Rattle.olk_errors.specs.Outcomes.{own, of_unexpected, unexpected_fault}
use Rattle.olk_errors.specs.Sinks.{held, EndsAlone, Takes}
use Rattle.olk_errors.specs.declared.sink.ErrorSink.{ErrorSink}
use Rattle.olk_errors.specs.declared.sink.Stop.{Stop}
use Rattle.olk_errors.proofs.Own.{contains_one}
use Rattle.olk_errors.proofs.Sinks.{goes_past, goes_own, ends_through, stopped_where}

-- whether names are none, by the length of what they are taken from
pub emptiness_of : {X Y : Type 0} (f : X → Y) (xs : List X) {n : ℕ} {b : Bool} → n ≡ length xs → b ≡ (n == 0) → is_empty (map f xs) ≡ b
emptiness_of f [] len e = sym (e ∙ ap (λ n. n == 0) len)
emptiness_of f (x ∷ xs) {n} len e = sym (e ∙ grind (arith, nat_tests))

-- ---- one fault of them

only_one_at : (g f : Fault) (n : ℕ) → n < 1 → get_or (g ∷ []) n f ≡ f → f ≡ g
only_one_at g f zero l e = sym e
only_one_at g f (suc n) l e = absurd (omega (arith, l))

only_one : (g f : Fault) → Contains (g ∷ []) f → f ≡ g
only_one g f c = only_one_at g f c.0 c.1 c.2

one_is : (g f : Fault) → f ∷ [] ≡ g ∷ [] → f ≡ g
one_is g f is = only_one g f (subst (λ l. Contains l f) is (contains_one f))

module _ (v : Data) (P Q : Path) where
  -- what is told of one name is one fault, and all that is kept of what is told of it and others
  pub told_of_one : {f : Fault} (n : Name) → f ∷ [] ≡ unexpected_fault (n ∷ []) v P Q ∷ [] → IsLikeOneOf (unexpected_fault (n ∷ []) v P Q ∷ []) f
  told_of_one {f} n is = record { one = f; among = subst (λ l. Contains l f) is (contains_one f); like = like_itself f }

  pub kept_of_first : {f : Fault} (n : Name) (others : List Name) → f ∷ [] ≡ unexpected_fault (n ∷ []) v P Q ∷ [] → IsKeptOf (unexpected_fault (n ∷ others) v P Q ∷ []) f
  kept_of_first {f} n others is = record {
    whole = unexpected_fault (n ∷ others) v P Q;
    among = contains_one (unexpected_fault (n ∷ others) v P Q);
    like = subst (IsLike f) (one_is (unexpected_fault (n ∷ []) v P Q) f is) (like_itself f);
  }

  -- of members their names are told
  pub told_by_name : (xs : List (Name × Data)) → (of_unexpected (map (λ x. x.0) xs) v P Q).all ≡ unexpected_faults true xs v P Q
  told_by_name [] = refl
  told_by_name (x ∷ xs) = refl

  -- ---- the error of those that were put aside

  module _ (ns : List Name) {T : Type 0} where
    pub none_unexpected : {y : T} {old : ErrorSink} → is_empty ns ≡ true → EndsAlone (Ok y) old old (of_unexpected ns v P Q)
    none_unexpected {y} {old} none = record { so = goes_past old (ap (λ b. own b (not b) (AdditionalProperties ns) v P Q) none) }

    pub told_alone : {r : Result T Stop} {old new : ErrorSink} → is_empty ns ≡ false → Takes r old new (unexpected_fault ns v P Q) → EndsAlone r old new (of_unexpected ns v P Q)
    told_alone {old = old} {new} some =
        let all : unexpected_fault ns v P Q ∷ [] ≡ (of_unexpected ns v P Q).all = ap (λ b. put_if (not b) (unexpected_fault ns v P Q) []) (sym some) in
        ends_through (goes_own (of_unexpected ns v P Q) (subst (Appends (held old) (held new)) all)) (stopped_where (λ w e at. ap (λ x. x ∷ []) at ∙ all))
