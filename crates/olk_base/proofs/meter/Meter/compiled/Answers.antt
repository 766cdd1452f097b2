use Rattle.std.proofs.Common.{rules}
use Rattle.olk_base.proofs.meter.Meter.compiled.Goals as goal

pub returns : goal.returns
returns c = search rules
