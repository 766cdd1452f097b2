use Rattle.std.proofs.Common.{rules}
use Rattle.olk_bench.proofs.regexes.BenchRegexRegexEngine.is_match.Goals as goal

pub returns-in-Text-clause-counts : goal.returns-in-Text-clause-counts
returns-in-Text-clause-counts c = search rules

pub returns-then-contains-clause-counts : goal.returns-then-contains-clause-counts
returns-then-contains-clause-counts c = search rules

pub returns-else-contains-clause-counts : goal.returns-else-contains-clause-counts
returns-else-contains-clause-counts c = search rules

pub returns-then-contains-clause-answer : goal.returns-then-contains-clause-answer
returns-then-contains-clause-answer c = search rules
