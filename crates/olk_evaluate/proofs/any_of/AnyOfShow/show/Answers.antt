use Rattle.olk_base.specs.Nodes.{subject_data}
use Rattle.olk_evaluate.proofs.Branches.{any_shown}
use Rattle.olk_evaluate.proofs.Shows.{shows_err}
use Rattle.olk_evaluate.proofs.any_of.AnyOfShow.show.Goals as goal

pub returns-in_err-show_accepting : goal.returns-in_err-show_accepting
returns-in_err-show_accepting g c = shows_err c.from_residual.ensures.0 c.show_accepting.ensures.kept

pub returns : goal.returns
returns g c = record {
  shown = λ u so. any_shown g.N.Show.tree g.N.Means.means u (subject_data c.args.node) c.args.self.now.location c.args.ctx.now.path c.args.self.now.schemas.items
      (c.in_ok-show_accepting.ensures.shown u so);
  kept = c.show_accepting.ensures.kept;
}
