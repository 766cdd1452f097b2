use Rattle.std.proofs.Common.{arith, ◌∙◌}
use Rattle.std.proofs.lemmas.Grind.{common_steps}
use Rattle.olk_tree.proofs.Members_named.{names_listed, so_far_end, so_far_ascends}
use Rattle.olk_tree.proofs.names.SortedNames.of.Goals as goal

pub invariant_of-result : goal.invariant_of-result
invariant_of-result c =
    so_far_ascends c.loop-name.names.items c.args.object.now.entries (so_far_end c.loop-name.invariant c.in-None.ensures.steps.0) c.into_iter-name-iterator.ensures.into_iter_gives.5

pub returns : goal.returns
returns c = so_far_end c.loop-name.invariant c.in-None.ensures.steps.0 ∙ names_listed c.args.object.now.entries

pub loop-name-preserved : goal.loop-name-preserved
loop-name-preserved c = grind (arith, common_steps)
