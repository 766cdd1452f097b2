use Rattle.std.proofs.Common.{[], arith}
use Rattle.olk_tree.specs.Questions.{of_unfinished}
use Rattle.object_logic.proofs.NodeVerdicts.{of_schema}
use Rattle.object_logic.proofs.validator.Validator.is_valid.Goals as goal

pub returns-clause-context : goal.returns-clause-context
returns-clause-context g c = c.check.ensures.only

pub returns-clause-verdict : goal.returns-clause-verdict
returns-clause-verdict g c S stands = (of_schema {P = []} stands.root c.check.ensures).verdict

pub returns-clause-asked_to : goal.returns-clause-asked_to
returns-clause-asked_to g c S stands = (of_schema {P = []} stands.root c.check.ensures).asked_to

pub returns-clause-unfinished_to : goal.returns-clause-unfinished_to
returns-clause-unfinished_to g c S stands =
    let asked = (of_schema {P = []} stands.root c.check.ensures).unfinished_to in
    let left = c.check.ensures.unfinished_to of_unfinished in
    omega (arith, asked, left)

pub returns-clause-certain : goal.returns-clause-certain
returns-clause-certain g c S stands = (of_schema {P = []} stands.root c.check.ensures).certain
