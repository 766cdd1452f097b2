-- The four ways of asking give one verdict.
use Rattle.std.specs.Prelude.{◌≡◌, Bool, true, false, Result, Ok, Err}
use Rattle.olk_reports.specs.declared.error.ValidateError.{ValidateError}
use Rattle.olk_reports.specs.declared.error.ValidateError.TheVariants.{Invalid, Memory}
use Rattle.object_logic.specs.declared.validate.Verdicts.{Verdicts}

-- each is this one
pub record AllSay (b : Bool) (v : Verdicts) : Type 0 where
  pub is_valid : v.is_valid ≡ b
  pub validate : v.validate ≡ b
  pub collect_errors : v.collect_errors ≡ b
  pub evaluate : v.evaluate ≡ b

-- whether there is no error, where memory was found
abbrev pub TellsWhether : {X : Type 0} → Result X ValidateError → Bool → Type 0
TellsWhether (Ok x) b = b ≡ true
TellsWhether (Err (Invalid e)) b = b ≡ false
TellsWhether (Err (Memory m)) b = ⊥
