use Rattle.olk_base.specs.Nodes.{subject_data}
use Rattle.olk_tree.specs.Maps.{named}
use Rattle.olk_tree.specs.Dependencies.{due_nodes}
use Rattle.olk_evaluate.proofs.Children.{shows_each}
use Rattle.olk_evaluate.proofs.Shows.{shows_weaker}
use Rattle.olk_evaluate.proofs.dependencies.DependentRequiredShow.show.Goals as goal

pub returns : goal.returns
returns g c = shows_weaker c.show_due.ensures (λ u so _ more.
    shows_each g.N.Show.tree g.N.Means.means u (subject_data c.args.node) c.args.ctx.now.path
    (due_nodes (named c.args.self.now.dependencies) (subject_data c.args.node)) c.requires more c.args.self.now.location)
