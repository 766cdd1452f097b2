use Rattle.olk_base.specs.Nodes.{subject_data}
use Rattle.olk_reports.specs.Evaluations.{shown_of}
use Rattle.olk_check.proofs.Asked.{answer_first}
use Rattle.olk_evaluate.specs.Wanted.{ShowsMore, each_wanted}
use Rattle.olk_evaluate.proofs.Shows.{as_before, shows_err, shows_then}
use Rattle.olk_documents.proofs.Trees.{place_shown}
use Rattle.olk_documents.proofs.evaluate.show_place.Goals as goal

pub returns-in_err-show_body : goal.returns-in_err-show_body
returns-in_err-show_body g c = shows_err c.from_residual.ensures.0 c.show_body.ensures.kept

pub returns : goal.returns
returns g c = let first = c.show_body.ensures.kept in
    shows_then first c.show_each.ensures (λ u so _ more P. place_shown P c.args.ctx.now.path g.W.Show.tree g.W.Means.means g.M.Show.tree g.M.Means.means u c.args.body.now c.args.more.now.items (subject_data c.args.node)
    (shown_of c.show_body.new.outcome) (c.in_ok-show_body.ensures.shown u (answer_first first.only c.show_each.ensures.kept.only so))
    (as_before (λ Q. ShowsMore (each_wanted g.M.Show.tree g.M.Means.means u c.args.more.now.items (subject_data c.args.node) Q) (shown_of c.show_body.new.outcome) (shown_of c.show_each.new.outcome)) first more))
