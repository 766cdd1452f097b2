use Rattle.olk_evaluate.proofs.Members.{meets_one}
use Rattle.olk_evaluate.proofs.Shows.{kept_same, shows_err, shows_weaker}
use Rattle.olk_evaluate.proofs.properties.show_member.Goals as goal

pub returns-in_err-annotate_also : goal.returns-in_err-annotate_also
returns-in_err-annotate_also g c = shows_err c.from_residual.ensures.0 kept_same

pub returns : goal.returns
returns g c = shows_weaker c.add_child_below.ensures (λ u so _. meets_one c.in_ok-annotate_also.ensures.added)
