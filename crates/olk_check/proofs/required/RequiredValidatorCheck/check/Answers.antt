use Rattle.olk_check.proofs.Answered.{said}
use Rattle.std.proofs.Common.{sym}
use Rattle.olk_tree.specs.Maps.{texts_of}
use Rattle.olk_check.proofs.Missing.{lacks_nothing}
use Rattle.olk_check.proofs.required.RequiredValidatorCheck.check.Goals as goal

pub returns-in-None : goal.returns-in-None
returns-in-None g c =
    said c.args._ctx.now (sym (lacks_nothing (texts_of c.args.self.now.required.items) (g.A.Asked.stands_for c.args.asked) c.in-None.ensures))
