use Rattle.std.proofs.Common.{◌≡◌}
use Rattle.serde_json.specs.View.{members_view}
use Rattle.olk_spec.specs.Schemas.{listed}
use Rattle.olk_tree.specs.Entries.{each_left}
use Rattle.olk_tree.specs.Visited.{names_met}
use Rattle.olk_tree.proofs.declared.next_name.Given as goal

abbrev pub invariant-loop-name : goal.invariant-loop-name
invariant-loop-name g l = names_met (each_left l.initial.entries) (listed (members_view l.members.entries)) ≡ names_met (each_left l.entries) (listed (members_view l.members.entries))
