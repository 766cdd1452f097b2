-- The faults of the first step that refuses.
use Rattle.std.specs.Prelude.{List, [], ◌∷◌}
use Rattle.olk_spec.specs.Faults.{Fault}

-- the faults of the first step that has any
abbrev pub or_else : List Fault → List Fault → List Fault
or_else [] gs = gs
or_else (f ∷ fs) gs = f ∷ fs

abbrev pub first_of : {A : Type 0} → (A → List Fault) → List A → List Fault
first_of f [] = []
first_of f (x ∷ xs) = or_else (f x) (first_of f xs)

-- the first fault alone
abbrev pub head_of : List Fault → List Fault
head_of [] = []
head_of (f ∷ fs) = f ∷ []
