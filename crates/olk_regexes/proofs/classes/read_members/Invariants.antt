use Rattle.std.proofs.Common.{◌≡◌, ◌-◌}
use Rattle.olk_regexes.specs.Classes.{members, all_members}
use Rattle.olk_regexes.proofs.classes.read_members.Given as goal

abbrev pub invariant-loop : goal.invariant-loop
invariant-loop l = members (l.end - l.counter) l.members.items l.rest ≡ all_members l.fn.text
