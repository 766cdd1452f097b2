use Rattle.olk_tree.specs.Maps.{texts_of}
use Rattle.olk_check.proofs.Asked.{only_same}
use Rattle.olk_errors.proofs.Missing.{other_lacks_nothing}
use Rattle.olk_errors.proofs.Sinks.{walks_past, walks_alone}
use Rattle.olk_errors.proofs.required.RequiredValidatorWalk.walk.Goals as goal

pub returns-in-None : goal.returns-in-None
returns-in-None c = walks_past (only_same c.args._ctx.now)
    (λ u so. other_lacks_nothing (texts_of c.args.self.now.required.items) _ c.args.self.now.location _ c.in-None.ensures)

pub returns-in-Some : goal.returns-in-Some
returns-in-Some c = walks_alone (only_same c.args._ctx.now) (λ u. c.walk_missing.ensures)
