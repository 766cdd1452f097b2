use Rattle.std.proofs.Common.{ap, ◌∙◌, map}
use Rattle.std.specs.List.{list_all}
use Rattle.olk_spec.specs.Tree.{is_valid}
use Rattle.olk_reports.specs.Evaluations.{described_of, shown, tree_of}
use Rattle.olk_reports.proofs.Evaluations.{names_in}
use Rattle.olk_reports.proofs.evaluation.EvaluationResult.reserve_children.Goals as goal

pub invariant_of-self : goal.invariant_of-self
invariant_of-self c valid = ap (λ ns. list_all is_valid (map tree_of ns)) c.reserve_exact.ensures.items ∙ c.self.invariant valid

pub returns : goal.returns
returns c = ap (λ ns. shown c.self.inside.valid (names_in c.self.inside.annotation) (map described_of c.self.inside.errors.items) (map tree_of ns)) c.reserve_exact.ensures.items ∙ c.self.view_is
