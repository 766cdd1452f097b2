use Rattle.std.proofs.Common.{◌≡◌}
use Rattle.olk.proofs.document.Reader.read_files.Given as goal

abbrev pub invariant-loop-round : goal.invariant-loop-round
invariant-loop-round g l = l.console.status ≡ l.fn.console.status
