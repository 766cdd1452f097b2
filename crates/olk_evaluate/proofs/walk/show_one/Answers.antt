use Rattle.olk_evaluate.proofs.Children.{shows_from}
use Rattle.olk_evaluate.proofs.Shows.{kept_same, shows_err, shows_weaker}
use Rattle.olk_evaluate.proofs.walk.show_one.Goals as goal

pub returns-in_err-reserve_children : goal.returns-in_err-reserve_children
returns-in_err-reserve_children g c = shows_err c.from_residual.ensures.0 kept_same

pub returns : goal.returns
returns g c = shows_weaker c.add_child.ensures (λ u so _. shows_from c.reserve_children.ensures)
