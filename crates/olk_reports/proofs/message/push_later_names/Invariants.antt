use Rattle.std.proofs.Common.{◌≡◌, ◌++◌, string_bytes, map, take}
use Rattle.std.specs.List.{flat_map}
use Rattle.olk_reports.specs.Messages.{later_name}
use Rattle.olk_reports.proofs.message.push_later_names.Given as goal

abbrev pub invariant-loop-name : goal.invariant-loop-name
invariant-loop-name l = string_bytes l.text ≡ string_bytes l.initial.text ++ flat_map later_name (map (λ n. n.now) (take l.name-index l.names))
