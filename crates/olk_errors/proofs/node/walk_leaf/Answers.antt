use Rattle.std.proofs.Common.{sym, ◌∙◌}
use Rattle.olk_base.specs.Nodes.{subject_data}
use Rattle.olk_reports.specs.Paths.{path_at}
use Rattle.olk_errors.proofs.Own.{leaf_fault, leaf_past}
use Rattle.olk_errors.proofs.node.walk_leaf.Goals as goal

pub returns-then-leaf_accepts : goal.returns-then-leaf_accepts
returns-then-leaf_accepts g c = leaf_past (leaf_fault (g.K.Leaf.keyword_of c.args.leaf.now) (subject_data c.args.node) c.args.location.now (path_at c.args.trail.now))
    (g.K.Leaf.finds c.args.leaf.now (subject_data c.args.node))
    (sym c.leaf_accepts.ensures ∙ c.if-leaf_accepts.true)
