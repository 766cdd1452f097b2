use Rattle.std.proofs.lemmas.Str.Pattern.{contains_text}
use Rattle.olk_bench.proofs.Patterns.{is_in-subslice}
use Rattle.olk_bench.proofs.regexes.contains.Goals as goal

pub returns : goal.returns
returns c = is_in-subslice c.contains.result c.args.part.now c.args.name.now (contains_text c.contains.result c.args.part.now c.args.name.now c.contains.ensures.cases)
