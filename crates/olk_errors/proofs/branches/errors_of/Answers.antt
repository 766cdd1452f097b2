use Rattle.std.proofs.Common.{◌∙◌}
use Rattle.olk_errors.proofs.Sinks.{list_of_all}
use Rattle.olk_errors.proofs.branches.errors_of.Goals as goal

pub returns-in-Ok-clause-errors : goal.returns-in-Ok-clause-errors
returns-in-Ok-clause-errors g c u so = list_of_all (c.in-Ok.ensures.ends u so).so c.all-sink.ensures.all (c.all-sink.ensures.held ∙ c.new.ensures.items) c.into_errors.ensures
