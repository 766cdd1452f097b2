-- What is told of a value: all faults, or one.
use Rattle.std.specs.Prelude.{◌≡◌, ⊤, Bool, true, false, List, [], ◌∷◌, ◌++◌, map, Contains, Option, None, Some, Result, Ok, Err}
use Rattle.serde_json.specs.Data.{Data}
use Rattle.olk_spec.specs.Names.{Path}
use Rattle.olk_spec.specs.World.{World}
use Rattle.olk_spec.specs.Faults.{Fault, IsLike, ◌∼◌}
use Rattle.olk_spec.specs.Reports.{cut}
use Rattle.olk_spec.specs.Meaning.{IsReport, accepts}
use Rattle.olk_reports.specs.Errors.{fault_of}
use Rattle.olk_reports.specs.declared.error.ValidationError.{ValidationError}
use Rattle.olk_reports.specs.declared.error.ValidateError.{ValidateError}
use Rattle.olk_reports.specs.declared.error.ValidateError.TheVariants.{Invalid, Memory}

-- the new list is the old one and then these faults, up to order
pub record Appends (old new : List ValidationError) (faults : List Fault) : Type 0 where
  pub added : List ValidationError
  pub is : new ≡ old ++ added
  pub same : map fault_of added ∼ faults

-- lists that are pairwise the same up to order
abbrev pub AreLike : List (List Fault) → List (List Fault) → Type 0
AreLike [] [] = ⊤
AreLike [] (gs ∷ gss) = ⊥
AreLike (fs ∷ fss) [] = ⊥
AreLike (fs ∷ fss) (gs ∷ gss) = (fs ∼ gs) × AreLike fss gss

-- what is so of the fault that is told, if one is
abbrev pub IfInvalid : ValidateError → (Fault → Type 0) → Type 0
IfInvalid (Invalid e) So = So (fault_of e)
IfInvalid (Memory m) So = ⊤

-- what is so where memory was not wanting
abbrev pub IfTold : {T : Type 0} → Result T ValidateError → Type 0 → Type 0
IfTold (Ok x) So = So
IfTold (Err (Invalid e)) So = So
IfTold (Err (Memory m)) So = ⊤

-- what asking a value comes to: whether it is accepted, the faults of the first step that refuses, and all faults
pub record Outcome : Type 0 where
  pub accepts : Bool
  pub first : List Fault
  pub all : List Fault

-- it accepts, and no step refuses
pub record Passes (o : Outcome) : Type 0 where
  pub verdict : o.accepts ≡ true
  pub nothing : o.first ≡ []

-- one of these, up to the order in its context
pub record IsLikeOneOf (faults : List Fault) (f : Fault) : Type 0 where
  pub one : Fault
  pub among : Contains faults one
  pub like : IsLike f one

-- what is kept of one of these, up to the order in its context
pub record IsKeptOf (faults : List Fault) (f : Fault) : Type 0 where
  pub whole : Fault
  pub among : Contains faults whole
  pub like : IsLike f (cut whole)

-- it refuses, and f is a fault of its first step that refuses, and what is kept of one of all its faults
pub record IsErrorOf (o : Outcome) (f : Fault) : Type 0 where
  pub verdict : o.accepts ≡ false
  pub of_first : IsLikeOneOf o.first f
  pub of_all : IsKeptOf o.all f

-- the error that is told, if one is
abbrev pub IsFirstOf : Outcome → Option ValidationError → Type 0
IsFirstOf o None = Passes o
IsFirstOf o (Some e) = IsErrorOf o (fault_of e)

-- f is what is kept of a fault of some report of the schema over the value
pub record IsOfReport (W : World) (u : Bool) (S v : Data) (P Q : Path) (f : Fault) : Type 0 where
  pub whole : Fault
  pub list : List Fault
  pub report : IsReport W u S v P Q list
  pub among : Contains list whole
  pub told : f ≡ cut whole

-- the schema refuses the value, by f
pub record IsRefusal (W : World) (u : Bool) (S v : Data) (P Q : Path) (f : Fault) : Type 0 where
  pub verdict : accepts W u S v ≡ false
  pub of_report : IsOfReport W u S v P Q f
