use Rattle.std.proofs.Common.{sym, subst}
use Rattle.olk_regexes.specs.Search.{Reads}
use Rattle.olk_regexes.proofs.Found.{found_reads, step_reads}
use Rattle.olk_regexes.proofs.search.read.Goals as goal

pub returns-then-before-clause-reads : goal.returns-then-before-clause-reads
returns-then-before-clause-reads c = subst (λ b. Reads c.args.regex.now c.args.c b c.args.marks.now c.args.marks.now b) (sym c.if-before.true)
    (found_reads c.args.regex.now c.args.c c.args.marks.now)

pub returns-clause-reads : goal.returns-clause-reads
returns-clause-reads c = subst (λ b. Reads c.args.regex.now c.args.c b c.args.marks.now c.step.new.marks c.step.result.ended) (sym c.if-before.false)
    (step_reads c.args.regex.now c.args.c c.args.marks.now c.step.new.marks c.step.result.ended c.step.ensures.steps)
