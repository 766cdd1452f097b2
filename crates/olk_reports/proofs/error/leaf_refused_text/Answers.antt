use Rattle.std.proofs.Common.{◌∙◌}
use Rattle.olk_reports.proofs.error.leaf_refused_text.Goals as goal

pub returns : goal.returns
returns c = rw (← (c.as_str.ensures.value ∙ c.in_ok-name.ensures)) c.joined_text.ensures
