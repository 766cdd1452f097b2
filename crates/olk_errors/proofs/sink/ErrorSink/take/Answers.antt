use Rattle.olk_errors.proofs.Sinks.{takes_first, takes_more, takes_none}
use Rattle.olk_errors.proofs.sink.ErrorSink.take.Goals as goal

pub returns-in-First : goal.returns-in-First
returns-in-First c = takes_first c.args.error c.in-First.is

pub returns-in_ok-append-in-All : goal.returns-in_ok-append-in-All
returns-in_ok-append-in-All c = takes_more c.args.error c.in-All.is c.in_ok-append-in-All.ensures.items

pub returns-in_err-append-in-All : goal.returns-in_err-append-in-All
returns-in_err-append-in-All c = takes_none c.from_residual.ensures.0 c.in-All.is c.in_err-append-in-All.ensures.memory
