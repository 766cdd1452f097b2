use Rattle.std.proofs.Common.{sym, ap}
use Rattle.olk_base.specs.Kit.{kit}
use Rattle.olk_base.specs.Nodes.{subject_data}
use Rattle.olk_evaluate.proofs.Children.{shown_as}
use Rattle.olk_evaluate.proofs.Shows.{shows_weaker}
use Rattle.olk_documents.specs.declared.node.DocumentNode.{out-DocumentNode}
use Rattle.olk_documents.proofs.Layers.{node_means, node_shows}
use Rattle.olk_documents.proofs.evaluate.DocumentNodeShow.+show.Goals as goal

pub returns : goal.returns
returns g t c = let o = kit g.K.Leaf g.R.RegexEngine in
    let n = c.args.self.now in
    let v = subject_data c.args.node in
    shows_weaker c.show_place.ensures (λ u so _ h. shown_as (h (out-DocumentNode _ _ n).location) (sym (node_shows o n u v c.args.ctx.now.path)) (ap (λ q. q.accepts u) (sym (node_means o n v))))
