use Rattle.std.proofs.Common.{ap, ◌∙◌, not, ◌==◌}
use Rattle.olk_answers.proofs.LineLemmas.{line_fed, line_ended}
use Rattle.olk_answers.proofs.reading.read_line.Goals as goal

pub returns-in-Feed : goal.returns-in-Feed
returns-in-Feed g c =
    let step = c.in_ok-take_part.ensures in
    line_fed _ _ _ _ _ c.loop-line.invariant.taken (rw c.in-Feed.is at step.taken) (step.plain c.loop-line.invariant.plain)

pub returns-in-End : goal.returns-in-End
returns-in-End g c =
    let empty = ap not c.is_empty.ensures ∙ ap (λ n. not (n == 0)) c.take_part.new.line.ok.0 in
    line_ended _ _ _ _ _ _ c.loop-line.invariant.taken (rw c.in-End.is at c.in_ok-take_part.ensures.taken) c.loop-line.invariant.plain empty
