use Rattle.olk_answers.specs.Steps.{Progress}
use Rattle.olk_answers.proofs.lines.answer_lines.Given as goal

abbrev pub invariant-loop : goal.invariant-loop
invariant-loop g l = Progress g.A.AnswerLine.gives (g.I.Read.remaining l.fn.reader) (g.I.Read.remaining l.reader) (g.O.Write.contents l.fn.writer) (g.O.Write.contents l.writer)
