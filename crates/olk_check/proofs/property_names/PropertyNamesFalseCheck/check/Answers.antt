use Rattle.std.proofs.Common.{true}
use Rattle.olk_tree.proofs.Members_met.{no_members}
use Rattle.olk_tree.proofs.Due.{has_none}
use Rattle.olk_check.proofs.Answered.{said}
use Rattle.olk_check.proofs.Asked.{unasked}
use Rattle.olk_check.proofs.property_names.PropertyNamesFalseCheck.check.Goals as goal

pub returns-in-None : goal.returns-in-None
returns-in-None g c = rw (no_members (g.A.Asked.stands_for c.args.asked) c.in-None.ensures) (unasked c.args._ctx.now true)

pub returns-in-Some : goal.returns-in-Some
returns-in-Some g c = said c.args._ctx.now (has_none (g.A.Asked.stands_for c.args.asked) c.in-Some.members.now.entries c.in-Some.ensures c.is_empty.result c.is_empty.ensures.0 c.is_empty.ensures.1)
