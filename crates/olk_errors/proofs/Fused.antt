-- Two names that are wanted, and then the members.
use Rattle.std.proofs.Common.{◌≡◌, Bool, true, false, not, ◌&&◌, List, [], ◌∷◌, map, refl}
use Rattle.serde_json.specs.Data.{Data}
use Rattle.olk_spec.specs.Names.{Name, Path, put_if, is_empty}
use Rattle.olk_spec.specs.Faults.{Fault, fault, Required}
use Rattle.olk_spec.specs.Schemas.{has, is_object}
use Rattle.olk_tree.specs.Firsts.{head_of}
use Rattle.olk_errors.specs.Found.{Outcome}
use Rattle.olk_errors.specs.Outcomes.{of_names}
use Rattle.olk_errors.proofs.Sinks.{after}

module _ (h : Name → Fault) (n m : Name) where
  abbrev wanting : List Name → Outcome
  wanting ns = record { accepts = is_empty ns; first = head_of (map h ns); all = map h ns }

  two_wanted : (a b : Bool) → after (wanting (put_if a n [])) (wanting (put_if b m [])) ≡ wanting (put_if a n (put_if b m []))
  two_wanted true true = refl
  two_wanted true false = refl
  two_wanted false true = refl
  two_wanted false false = refl

two_names : (n m : Name) (v : Data) (P Q : Path) → after (of_names (n ∷ []) v P Q) (of_names (m ∷ []) v P Q) ≡ of_names (n ∷ m ∷ []) v P Q
two_names n m v P Q = two_wanted (λ x. fault (Required x) v Q P) n m (is_object v && not (has n v)) (is_object v && not (has m v))

-- what is walked over by turns, by other words for the names, the place and the object
module _ (members : Data → Outcome) {n a m b : Name} {v w : Data} {P O : Path} (Q : Path) (first : n ≡ a) (second : m ≡ b) (place : P ≡ O) (is : w ≡ v) where
  pub two_then_members : after (after (of_names (n ∷ []) v P Q) (of_names (m ∷ []) v P Q)) (members w) ≡ after (of_names (a ∷ b ∷ []) v O Q) (members v)
  two_then_members = λ i. after (two_names (first i) (second i) v (place i) Q i) (members (is i))
