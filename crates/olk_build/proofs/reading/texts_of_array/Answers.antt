use Rattle.olk_build.proofs.Spending.{exit_with, tells_left}
use Rattle.olk_build.proofs.reading.texts_of_array.Goals as goal

pub returns-in_err-items-clause-refused : goal.returns-in_err-items-clause-refused
returns-in_err-items-clause-refused c = exit_with _ _ _ c.from_residual.ensures.1 (tells_left _ _ _ c.in_err-items.ensures.refused)

pub returns-clause-names : goal.returns-clause-names
returns-clause-names c = rw c.in_ok-items.ensures.array c.texts_of_items.ensures.names

pub returns-clause-texts : goal.returns-clause-texts
returns-clause-texts c = rw c.in_ok-items.ensures.array c.texts_of_items.ensures.texts

pub returns-clause-refused : goal.returns-clause-refused
returns-clause-refused c = rw c.in_ok-items.ensures.array c.texts_of_items.ensures.refused
