use Rattle.std.proofs.Common.{rules}
use Rattle.olk_base.proofs.no_regexes.NoRegexesMakeRegex.make.Goals as goal

pub returns-clause-counts : goal.returns-clause-counts
returns-clause-counts c = search rules
