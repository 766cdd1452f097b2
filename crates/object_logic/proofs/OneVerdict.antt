-- What each way of asking says is what is meant.
use Rattle.std.proofs.Common.{◌≡◌, ℕ, Bool, true, false, List, [], ◌∷◌, refl, sym, ◌∙◌, Result, Ok, Err}
use Rattle.std.specs.Prelude.{OnOk, IfErr}
use Rattle.olk_spec.specs.Names.{Path}
use Rattle.olk_spec.specs.Tree.{is_valid}
use Rattle.olk_reports.specs.Shown.{Shown, shown, node_at}
use Rattle.olk_reports.specs.declared.error.ValidateError.{ValidateError}
use Rattle.olk_reports.specs.declared.error.ValidateError.TheVariants.{Invalid, Memory}
use Rattle.olk_errors.specs.Found.{Outcome, Passes, IsErrorOf, IfInvalid}
use Rattle.object_logic.specs.OneVerdict.{TellsWhether}

-- there is no error exactly where the value is accepted
pub told_rightly : {X : Type 0} (r : Result X ValidateError) (b : Bool) (o : Outcome) → TellsWhether r b → OnOk r (Passes o) → IfErr r (λ e. IfInvalid e (IsErrorOf o)) → b ≡ o.accepts
told_rightly (Ok x) b o t h k = t ∙ sym h.verdict
told_rightly (Err (Invalid e)) b o t h k = t ∙ sym k.verdict
told_rightly (Err (Memory m)) b o t h k = absurd t

-- a result is valid wherever it stands
pub valid_anywhere : (s : Shown) (P Q M T : Path) → is_valid (node_at P Q s) ≡ is_valid (node_at M T s)
valid_anywhere (shown true a es ts) P Q M T = refl
valid_anywhere (shown false a es ts) P Q M T = refl
