use Rattle.olk_build.proofs.Spending.{exit, exit_with, tells_left, tells_memory}
use Rattle.olk_build.proofs.property_dependencies.choices_of_object.Goals as goal

pub returns-in_err-texts-clause-refused : goal.returns-in_err-texts-clause-refused
returns-in_err-texts-clause-refused c =
    exit_with _ _ _ c.from_residual-in_err-texts.ensures.1 (rw c.in_ok-entries.ensures.object c.in_err-texts.ensures.refused)

pub returns-in_err-entries-clause-refused : goal.returns-in_err-entries-clause-refused
returns-in_err-entries-clause-refused c = exit_with _ _ _ c.from_residual.ensures.1 (tells_left _ _ _ c.in_err-entries.ensures.refused)

pub returns-in_err-keys-clause-refused : goal.returns-in_err-keys-clause-refused
returns-in_err-keys-clause-refused c = exit _ _ _ c.from_residual-in_err-keys.ensures.1 (tells_memory _)
