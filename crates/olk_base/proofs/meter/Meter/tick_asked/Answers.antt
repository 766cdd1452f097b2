use Rattle.std.proofs.Common.{rules}
use Rattle.olk_base.proofs.meter.Meter.tick_asked.Goals as goal

pub returns : goal.returns
returns c = search rules
