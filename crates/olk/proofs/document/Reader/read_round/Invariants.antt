use Rattle.std.proofs.Common.{◌≡◌}
use Rattle.olk.proofs.document.Reader.read_round.Given as goal

abbrev pub invariant-loop-name : goal.invariant-loop-name
invariant-loop-name g l = l.console.status ≡ l.fn.console.status
