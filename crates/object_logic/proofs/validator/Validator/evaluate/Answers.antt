use Rattle.std.proofs.Common.{[]}
use Rattle.serde_json.specs.View.{view}
use Rattle.object_logic.proofs.NodeVerdicts.{certain_of_schema}
use Rattle.object_logic.proofs.validator.Validator.evaluate.Goals as goal

pub returns-clause-certain : goal.returns-clause-certain
returns-clause-certain g c S stands = certain_of_schema {P = []} (view c.args.instance.now) stands.root c.in_ok-outcome.ensures.certain
