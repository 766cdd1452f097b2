use Rattle.std.proofs.Common.{◌≡◌}
use Rattle.olk.specs.declared.console.Status.TheVariants.{Failed}
use Rattle.olk.specs.Statuses.{worse}
use Rattle.olk.proofs.schema.refuse_unsupported.Given as goal

abbrev pub invariant-loop-line : goal.invariant-loop-line
invariant-loop-line g l = worse l.console.status Failed ≡ worse l.fn.console.status Failed
