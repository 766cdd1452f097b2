use Rattle.olk_base.specs.Nodes.{subject_data}
use Rattle.olk_evaluate.proofs.OneOf.{any_of_shown}
use Rattle.olk_evaluate.proofs.Shows.{shows_weaker}
use Rattle.olk_evaluate.proofs.any_of.SingleAnyOfShow.show.Goals as goal

pub returns : goal.returns
returns g c = shows_weaker c.show_one.ensures
    (λ u so _ one. any_of_shown g.N.Show.tree g.N.Means.means u (subject_data c.args.node) c.args.self.now.location c.args.ctx.now.path c.args.self.now.node c.requires one)
