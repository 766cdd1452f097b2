use Rattle.std.proofs.Common.{◌≡◌}
use Rattle.serde_json.specs.View.{members_view}
use Rattle.olk_spec.specs.Schemas.{listed}
use Rattle.olk_tree.specs.Visited.{members_declared}
use Rattle.olk_tree.proofs.declared.next_member.Given as goal

abbrev pub invariant-loop-name : goal.invariant-loop-name
invariant-loop-name g l = members_declared l.entries (listed (members_view l.initial.left)) ≡ members_declared l.entries (listed (members_view l.left))
