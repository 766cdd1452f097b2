use Rattle.olk_errors.proofs.Sinks.{goes_passing, stopping_error}
use Rattle.olk_errors.proofs.branches.first_error_of.Goals as goal

pub returns-in-Ok-clause-error : goal.returns-in-Ok-clause-error
returns-in-Ok-clause-error g c u so = goes_passing c.first-sink.ensures.one (c.in-Ok.ensures.ends u so).so

pub returns-in-Some-clause-error : goal.returns-in-Some-clause-error
returns-in-Some-clause-error g c u so = stopping_error (c.in-Err.ensures.ends u so) c.first-sink.ensures.one c.first-sink.ensures.held c.in-Some.ensures

pub returns-in-Ok-clause-context : goal.returns-in-Ok-clause-context
returns-in-Ok-clause-context g c = c.walk.ensures.only

pub returns-in-Some-clause-context : goal.returns-in-Some-clause-context
returns-in-Some-clause-context g c = c.walk.ensures.only

pub returns-clause-context : goal.returns-clause-context
returns-clause-context g c = c.walk.ensures.only
