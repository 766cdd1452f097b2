use Rattle.serde_json.specs.View.{members_view}
use Rattle.olk_check.proofs.Missing.{Lacks}
use Rattle.olk_check.proofs.required.has_each.Given as goal

abbrev pub invariant-loop-name : goal.invariant-loop-name
invariant-loop-name l = Lacks l.names.items l.name-index (members_view l.members.entries)
