use Rattle.std.proofs.Common.{ap, ◌∙◌, map, subst}
use Rattle.olk_reports.specs.Evaluations.{IsConsistent, tree_of, shown_children}
use Rattle.olk_reports.proofs.evaluation.EvaluationResult.children.Goals as goal

pub returns-clause-nodes : goal.returns-clause-nodes
returns-clause-nodes c = ap (map tree_of) c.as_slice.ensures.value ∙ ap shown_children c.self.view_is

pub returns-clause-validity : goal.returns-clause-validity
returns-clause-validity c = subst IsConsistent c.self.view_is c.self.invariant
