use Rattle.std.proofs.Common.{◌∙◌, arith}
use Rattle.serde_json.specs.View.{view}
use Rattle.olk_tree.specs.Questions.{of_unfinished}
use Rattle.olk_check.proofs.Asked.{certain_of, verdict_of}
use Rattle.olk_document.proofs.Verdicts.{certain_of_document, asked_of_document, unfinished_of_document}
use Rattle.olk_document.proofs.validator.DocumentValidator.is_valid.Goals as goal

pub returns-clause-context : goal.returns-clause-context
returns-clause-context g c = c.check.ensures.only

pub returns-clause-verdict : goal.returns-clause-verdict
returns-clause-verdict g c D stands = c.check.ensures.verdict ∙ stands.root.verdict c.args.ctx.now.answer (view c.args.instance.now)

pub returns-clause-asked_to : goal.returns-clause-asked_to
returns-clause-asked_to g c D stands = asked_of_document stands.root (view c.args.instance.now) c.check.ensures

pub returns-clause-unfinished_to : goal.returns-clause-unfinished_to
returns-clause-unfinished_to g c D stands =
    let asked = unfinished_of_document stands.root (view c.args.instance.now) c.check.ensures in
    let left = c.check.ensures.unfinished_to of_unfinished in
    omega (arith, asked, left)

pub returns-clause-certain : goal.returns-clause-certain
returns-clause-certain g c D stands = (certain_of_document stands.root (view c.args.instance.now) (certain_of (λ u so. verdict_of c.check.ensures so))).same
