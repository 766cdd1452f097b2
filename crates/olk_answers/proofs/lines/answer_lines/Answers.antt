use Rattle.std.proofs.lemmas.Result.{err_from_is_err_and}
use Rattle.olk_answers.proofs.ProgressLemmas.{Progress-start, Progress-more, Progress-all, Progress-failed, Progress-stops, Progress-in_part}
use Rattle.olk_answers.proofs.lines.answer_lines.Goals as goal

pub loop-init : goal.loop-init
loop-init g c = Progress-start _ _ _

pub returns-in_err-read_line-clause-stops : goal.returns-in_err-read_line-clause-stops
returns-in_err-read_line-clause-stops g c =
    let p = err_from_is_err_and c.from_residual.result c.from_residual.ensures.1 in
    rw p.1 (Progress-stops _ _ _ _ _ p.0 c.loop.invariant)

pub returns-in_err-write_whole-clause-stops : goal.returns-in_err-write_whole-clause-stops
returns-in_err-write_whole-clause-stops g c =
    let p = err_from_is_err_and c.from_residual-in_err-write_whole.result c.from_residual-in_err-write_whole.ensures.1 in
    let next = rw c.if-not-branch.false at c.in_ok-read_line.ensures in
    let gives = rw c.deref.ensures.value at c.in_ok-text.ensures in
    let writes = rw (c.deref-in-loop.ensures.value, c.in_ok-push.ensures.items) at c.in_err-write_whole.ensures.err in
    rw (p.1, p.2, c.in_err-write_whole.ensures.failed) (Progress-in_part _ _ _ _ _ _ _ _ _ c.loop.invariant next gives writes)

pub loop-preserved : goal.loop-preserved
loop-preserved g c =
    let next = rw c.if-not-branch.false at c.in_ok-read_line.ensures in
    let gives = rw c.deref.ensures.value at c.in_ok-text.ensures in
    let writes = rw (c.deref-in-loop.ensures.value, c.in_ok-push.ensures.items) at c.in_ok-write_whole.ensures.ok in
    Progress-more _ _ _ _ _ _ _ _ _ c.loop.invariant next gives writes

pub returns-clause-stops : goal.returns-clause-stops
returns-clause-stops g c = Progress-failed _ _ _ _ _ c.loop.invariant

pub returns-then-not-branch-clause-all : goal.returns-then-not-branch-clause-all
returns-then-not-branch-clause-all g c =
    let ended = rw c.if-not-branch.true at c.in_ok-read_line.ensures in
    Progress-all _ _ _ _ _ _ c.loop.invariant ended

pub returns-in_err-text-clause-stops : goal.returns-in_err-text-clause-stops
returns-in_err-text-clause-stops g c =
    let p = err_from_is_err_and c.from_residual-in_err-text.result c.from_residual-in_err-text.ensures.1 in
    rw p.1 (Progress-stops _ _ _ _ _ p.0 c.loop.invariant)

pub returns-in_err-push-clause-stops : goal.returns-in_err-push-clause-stops
returns-in_err-push-clause-stops g c =
    let p = err_from_is_err_and c.from_residual-in_err-push.result c.from_residual-in_err-push.ensures.1 in
    rw p.1 (Progress-stops _ _ _ _ _ p.0 c.loop.invariant)
