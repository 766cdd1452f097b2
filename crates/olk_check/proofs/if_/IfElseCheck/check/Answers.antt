use Rattle.std.proofs.Common.{true}
use Rattle.olk_tree.specs.Questions.{always}
use Rattle.olk_check.proofs.Walks.{accepted_alone, refused_then}
use Rattle.olk_check.proofs.if_.IfElseCheck.check.Goals as goal

pub returns-then-check : goal.returns-then-check
returns-then-check g c = rw c.if-check.true (accepted_alone (g.N.Means.means c.args.self.now.else_schema (g.A.Asked.stands_for c.args.asked)) c.if-check.ensures)

pub returns-else-check : goal.returns-else-check
returns-else-check g c = refused_then (always true) (g.N.Means.means c.args.self.now.else_schema (g.A.Asked.stands_for c.args.asked)) c.if-check.ensures c.check-else-check.ensures
