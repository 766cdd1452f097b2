use Rattle.std.proofs.Common.{[], ◌∷◌, refl}
use Rattle.std.proofs.Math.Bool.{and-true}
use Rattle.olk_base.specs.Nodes.{subject_data}
use Rattle.olk_evaluate.proofs.Children.{shown_as, shows_each}
use Rattle.olk_evaluate.proofs.Shows.{shows_weaker}
use Rattle.olk_evaluate.proofs.all_of.SingleValueAllOfShow.show.Goals as goal

pub returns : goal.returns
returns g c = shows_weaker c.show_one.ensures
    (λ u so _ one. shown_as (shows_each g.N.Show.tree g.N.Means.means u (subject_data c.args.node) c.args.ctx.now.path (c.args.self.now.node ∷ []) c.requires one c.args.self.now.location)
    refl (and-true ((g.N.Means.means c.args.self.now.node (subject_data c.args.node)).accepts u)))
