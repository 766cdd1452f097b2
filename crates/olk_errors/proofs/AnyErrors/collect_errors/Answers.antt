use Rattle.std.proofs.Common.{sym, ◌∙◌, ap, length}
use Rattle.olk_errors.proofs.Sinks.{list_of_all, stopping_list}
use Rattle.olk_check.proofs.Asked.{certain_of, own_answer}
use Rattle.olk_errors.proofs.Appending.{appended_none}
use Rattle.olk_errors.proofs.AnyErrors.collect_errors.Goals as goal

pub returns-in-Ok-clause-report : goal.returns-in-Ok-clause-report
returns-in-Ok-clause-report g c = rw (← c.as_str.ensures, ← c.of.ensures) (list_of_all (c.in-Ok.ensures.ends c.args.ctx.now.answer own_answer).so c.all-sink.ensures.all
    (c.all-sink.ensures.held ∙ ap (λ v. v.items) c.replace-so_far.ensures.value) c.into_errors.ensures)

pub returns-in-Ok-clause-context : goal.returns-in-Ok-clause-context
returns-in-Ok-clause-context g c = c.walk-walked.ensures.only

pub returns-in-Err-clause-memory : goal.returns-in-Err-clause-memory
returns-in-Err-clause-memory g c =
    let held = c.all-sink.ensures.held ∙ ap (λ v. v.items) c.replace-so_far.ensures.value in
    c.truncate.ensures.items
    ∙ stopping_list (c.in-Err.ensures.ends c.args.ctx.now.answer own_answer) c.all-sink.ensures.all (c.len-len.ensures ∙ c.args.errors.now.ok.0 ∙ ap length (sym held)) c.into_errors.ensures ∙ held

pub returns-in-Err-clause-context : goal.returns-in-Err-clause-context
returns-in-Err-clause-context g c = c.walk-walked.ensures.only

pub returns-in-Ok-clause-certain : goal.returns-in-Ok-clause-certain
returns-in-Ok-clause-certain g c = rw (← c.of.ensures) (certain_of (λ u so. appended_none
    (list_of_all (c.in-Ok.ensures.ends u so).so c.all-sink.ensures.all (c.all-sink.ensures.held ∙ ap (λ v. v.items) c.replace-so_far.ensures.value) c.into_errors.ensures)
    ∙ g.met.W.Reports.agrees c.args.self.now u _ _))
