use Rattle.std.proofs.lemmas.Str.Pattern.{ends_text}
use Rattle.olk_bench.proofs.regexes.finishes_with.Goals as goal

pub returns : goal.returns
returns c = ends_text c.ends_with.result c.args.part.now c.args.name.now c.ends_with.ensures.cases
