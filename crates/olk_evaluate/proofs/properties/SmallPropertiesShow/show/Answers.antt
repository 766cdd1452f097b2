use Rattle.std.proofs.Common.{[], subst}
use Rattle.olk_base.specs.Nodes.{subject_data}
use Rattle.olk_reports.specs.Evaluations.{node_at, shown_of}
use Rattle.olk_tree.specs.Properties.{properties_mean}
use Rattle.olk_tree.specs.Shown.{properties_tree}
use Rattle.olk_evaluate.specs.Wanted.{IsShown}
use Rattle.olk_evaluate.proofs.Shows.{shows_weaker}
use Rattle.olk_evaluate.proofs.properties.SmallPropertiesShow.show.Goals as goal

pub returns : goal.returns
returns g c =
    let v = subject_data c.args.node in
    let Q = c.args.ctx.now.path in
    let P = c.args.self.now.location in
    shows_weaker c.show_properties.ensures (λ u so _ shown.
    subst (λ es. IsShown (properties_tree (λ n. g.N.Show.tree n u) v Q P es [], (properties_mean g.N.Means.means es v).accepts u) (node_at P Q (shown_of c.show_properties.new.outcome)))
    c.entries.ensures (shown P))
