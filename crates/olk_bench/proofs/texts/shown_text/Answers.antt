use Rattle.std.proofs.Common.{rules}
use Rattle.olk_bench.proofs.texts.shown_text.Goals as goal

pub returns-then-has_fraction : goal.returns-then-has_fraction
returns-then-has_fraction c = search rules
