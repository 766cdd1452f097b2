use Rattle.olk_base.specs.Nodes.{subject_data}
use Rattle.olk_evaluate.proofs.Children.{shows_each}
use Rattle.olk_evaluate.proofs.Shows.{shows_weaker}
use Rattle.olk_evaluate.proofs.all_of.AllOfShow.show.Goals as goal

pub returns : goal.returns
returns g c = shows_weaker c.show_each.ensures (λ u so _ each.
    shows_each g.N.Show.tree g.N.Means.means u (subject_data c.args.node) c.args.ctx.now.path c.args.self.now.schemas.items c.requires each c.args.self.now.location)
