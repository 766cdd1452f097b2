-- Questions that are asked together.
use Rattle.std.specs.Prelude.{Bool, true, false, List, [], ◌∷◌}
use Rattle.olk_base.specs.Lawful.{Asking}
use Rattle.olk_tree.specs.Questions.{Question, both, every}
use Rattle.olk_check.specs.declared.accepted.Accepted.{Accepted}
use Rattle.olk_check.specs.declared.accepted.Accepted.TheVariants.{None, One, Two}
use Rattle.olk_check.specs.Asks.{Asks}

abbrev pub is_accepted : Accepted → Bool
is_accepted None = false
is_accepted One = true
is_accepted Two = true

abbrev pub one_if : Bool → Accepted
one_if true = One
one_if false = None

abbrev pub two_if : Bool → Accepted
two_if true = Two
two_if false = None

module _ (old new : Asking) where
  -- the answer to one question
  abbrev pub AsksOne : Question → Accepted → Type 0
  AsksOne q None = Asks old new q false
  AsksOne q One = Asks old new q true
  AsksOne q Two = ⊥

  -- the answer to two questions
  abbrev pub AsksTwo : Question → Question → Accepted → Type 0
  AsksTwo p q None = Asks old new (both p q) false
  AsksTwo p q One = ⊥
  AsksTwo p q Two = Asks old new (both p q) true

  -- the answer to the first of some questions, or to the first two; where one of these is refused, not all are accepted
  abbrev pub AsksFirst : {X : Type 0} → (X → Question) → List X → Accepted → Type 0
  AsksFirst f xs None = Asks old new (every f xs) false
  AsksFirst f [] One = ⊥
  AsksFirst f (x ∷ xs) One = Asks old new (f x) true
  AsksFirst f [] Two = ⊥
  AsksFirst f (x ∷ []) Two = ⊥
  AsksFirst f (x ∷ y ∷ xs) Two = Asks old new (both (f x) (f y)) true
