use Rattle.std.proofs.Common.{rules}
use Rattle.olk_bench.proofs.regexes.BenchRegexesMakeRegex.make.Goals as goal

pub returns-in_err-regex-clause-counts : goal.returns-in_err-regex-clause-counts
returns-in_err-regex-clause-counts c = search rules

pub returns-in-Some-clause-counts : goal.returns-in-Some-clause-counts
returns-in-Some-clause-counts c = search rules

pub returns-in-None-clause-counts : goal.returns-in-None-clause-counts
returns-in-None-clause-counts c = search rules
