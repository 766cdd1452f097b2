use Rattle.serde_json.specs.View.{view}
use Rattle.olk_document.proofs.Verdicts.{certain_of_document}
use Rattle.olk_document.proofs.validator.DocumentValidator.evaluate.Goals as goal

pub returns-clause-certain : goal.returns-clause-certain
returns-clause-certain g c D stands = certain_of_document stands.root (view c.args.instance.now) c.in_ok-outcome.ensures.certain
