use Rattle.olk_errors.proofs.Sinks.{goes_passing, stopping_error}
use Rattle.std.proofs.Common.{sym}
use Rattle.olk_check.proofs.Asked.{certain_of, own_answer}
use Rattle.olk_errors.proofs.AnyErrors.validate.Goals as goal

pub returns-in-Ok-clause-ok : goal.returns-in-Ok-clause-ok
returns-in-Ok-clause-ok g c = rw (← c.as_str.ensures, ← c.of.ensures) (goes_passing c.first-sink.ensures.one (c.in-Ok.ensures.ends c.args.ctx.now.answer own_answer).so)

pub returns-in-Ok-clause-context : goal.returns-in-Ok-clause-context
returns-in-Ok-clause-context g c = c.walk.ensures.only

pub returns-in-Some-clause-invalid : goal.returns-in-Some-clause-invalid
returns-in-Some-clause-invalid g c = rw (← c.as_str.ensures, ← c.of.ensures) (stopping_error (c.in-Err.ensures.ends c.args.ctx.now.answer own_answer) c.first-sink.ensures.one c.first-sink.ensures.held c.in-Some.ensures)

pub returns-in-Some-clause-context : goal.returns-in-Some-clause-context
returns-in-Some-clause-context g c = c.walk.ensures.only

pub returns-clause-context : goal.returns-clause-context
returns-clause-context g c = c.walk.ensures.only

pub returns-in-Ok-clause-certain : goal.returns-in-Ok-clause-certain
returns-in-Ok-clause-certain g c = rw (← c.of.ensures) (certain_of (λ u so. sym (goes_passing c.first-sink.ensures.one (c.in-Ok.ensures.ends u so).so).verdict))

pub returns-in-Some-clause-certain : goal.returns-in-Some-clause-certain
returns-in-Some-clause-certain g c = rw (← c.of.ensures) (certain_of (λ u so. sym (stopping_error (c.in-Err.ensures.ends u so) c.first-sink.ensures.one c.first-sink.ensures.held c.in-Some.ensures).verdict))
