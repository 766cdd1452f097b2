use Rattle.olk_bench.proofs.Patterns.{strips_text}
use Rattle.olk_bench.proofs.regexes.strip_text.Goals as goal

pub returns : goal.returns
returns c = strips_text c.strip_prefix.result c.args.prefix.now c.args.text.now c.strip_prefix.ensures.cases
