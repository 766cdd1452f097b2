use Rattle.std.proofs.Common.{true}
use Rattle.olk_tree.specs.Questions.{always}
use Rattle.olk_check.proofs.Walks.{accepted_then, refused_alone}
use Rattle.olk_check.proofs.if_.IfThenCheck.check.Goals as goal

pub returns-then-not-check : goal.returns-then-not-check
returns-then-not-check g c = rw c.if-not-check.true (refused_alone (g.N.Means.means c.args.self.now.then_schema (g.A.Asked.stands_for c.args.asked)) c.if-not-check.ensures)

pub returns-else-not-check : goal.returns-else-not-check
returns-else-not-check g c = accepted_then (g.N.Means.means c.args.self.now.then_schema (g.A.Asked.stands_for c.args.asked)) (always true) c.if-not-check.ensures c.check-else-not-check.ensures
