use Rattle.std.proofs.Common.{◌≡◌}
use Rattle.olk.proofs.document.compound_document.Given as goal

abbrev pub invariant-loop-file : goal.invariant-loop-file
invariant-loop-file g l = l.console.status ≡ l.fn.console.status
