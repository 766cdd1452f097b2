use Rattle.olk_evaluate.proofs.Children.{shows_both, shows_from}
use Rattle.olk_evaluate.proofs.Shows.{kept_same, as_before, shows_err, shows_then}
use Rattle.olk_base.specs.Nodes.{subject_data}
use Rattle.olk_reports.specs.Evaluations.{shown_of}
use Rattle.olk_evaluate.specs.Wanted.{ShowsMore, each_wanted}
use Rattle.std.proofs.Common.{[], ◌∷◌}
use Rattle.olk_check.proofs.Asked.{answer_first}
use Rattle.olk_evaluate.proofs.if_.show_both.Goals as goal

pub returns-in_err-reserve_children : goal.returns-in_err-reserve_children
returns-in_err-reserve_children g c = shows_err c.from_residual.ensures.0 kept_same

pub returns-in_err-add_child : goal.returns-in_err-add_child
returns-in_err-add_child g c = shows_err c.from_residual-in_err-add_child.ensures.0 c.add_child.ensures.kept

pub returns : goal.returns
returns g c = shows_then c.add_child.ensures.kept c.add_child-2.ensures (λ u so _ more. shows_from c.reserve_children.ensures
    (shows_both (c.in_ok-add_child.ensures.shown u (answer_first c.add_child.ensures.kept.only c.add_child-2.ensures.kept.only so))
    (as_before (λ Q. ShowsMore (each_wanted g.N.Show.tree g.N.Means.means u (c.args.second.now ∷ []) (subject_data c.args.node) Q) (shown_of c.add_child.new.outcome) (shown_of c.add_child-2.new.outcome))
    c.add_child.ensures.kept more)))
