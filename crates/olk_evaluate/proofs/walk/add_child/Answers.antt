use Rattle.std.proofs.Common.{refl, ◌∙◌}
use Rattle.olk_reports.specs.Evaluations.{shown_of}
use Rattle.olk_evaluate.proofs.Children.{shown_there, shows_one, put_at}
use Rattle.olk_evaluate.proofs.Shows.{shows_by, shows_err}
use Rattle.olk_evaluate.proofs.walk.add_child.Goals as goal

pub show-requires : goal.show-requires
show-requires g c _ = ((refl, tt), c.valid_empty-shown.ensures)

pub returns-in_err-show : goal.returns-in_err-show
returns-in_err-show g c = shows_err c.from_residual.ensures.0 c.show.ensures.kept

pub returns-in_err-instance_path : goal.returns-in_err-instance_path
returns-in_err-instance_path g c = shows_err c.from_residual-in_err-instance_path.ensures.0 c.show.ensures.kept

pub returns : goal.returns
returns g c = shows_by c.add_child.ensures.added c.show.ensures.kept
    (λ u so _ added. shows_one (shown_there (shown_of c.show.new.outcome) c.location.ensures c.show.ensures.kept.path (c.in_ok-show.ensures.shown u so))
    (put_at c.location.result.now c.show.new.outcome c.args.outcome.now c.at.ensures (c.in_ok-instance_path.ensures ∙ c.as_str.ensures) added))
