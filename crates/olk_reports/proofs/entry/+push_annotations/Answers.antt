use Rattle.std.proofs.Common.{refl, rules, arith, ◌<◌}
use Rattle.olk_spec.specs.Tree.{annotations}
use Rattle.olk_reports.specs.Evaluations.{tree_of}
use Rattle.olk_reports.specs.Shown.{tree_size}
use Rattle.olk_reports.proofs.Entries.{below_end, below_is_less, below_more, annotations_below}
use Rattle.olk_reports.proofs.entry.+push_annotations.Goals as goal

pub returns : goal.returns
returns t c =
    below_end (λ m. annotations (tree_of m)) _ _ c.loop-child.child-index _ _ _ _ _ c.loop-child-test.false refl c.in_ok-push_own_annotation.ensures c.loop-child.invariant (annotations_below (tree_of c.args.node.now) c.children-child-items.result.now c.children-child-items.ensures.nodes)

pub loop-child-preserved : goal.loop-child-preserved
loop-child-preserved t c =
    below_more (λ m. annotations (tree_of m)) c.children-child-items.result.now c.loop-child.child-index c.child-item.result _ _ _ c.loop-child-test.true c.child-item.is c.loop-child.invariant c.in_ok-push_annotations.ensures

pub push_annotations-requires : goal.push_annotations-requires
push_annotations-requires t c =
    let less : tree_size (tree_of c.child-item.result) < tree_size (tree_of c.args.node.now)
    = below_is_less (tree_of c.args.node.now) c.children-child-items.result.now c.loop-child.child-index c.child-item.result c.children-child-items.ensures.nodes c.loop-child-test.true c.child-item.is in
    (omega (arith, c.decreases, less), search rules)
