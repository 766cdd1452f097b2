use Rattle.std.proofs.Common.{sym, ◌∙◌}
use Rattle.olk_check.proofs.Answered.{by_only}
use Rattle.olk_errors.proofs.Additional.{one_alone}
use Rattle.olk_errors.proofs.Sinks.{walks_same}
use Rattle.olk_errors.proofs.node.walk_keywords.Goals as goal

pub returns-in-len1 : goal.returns-in-len1
returns-in-len1 g c = walks_same (λ u so. one_alone g.W.Means.means g.W.Reports.first g.W.Reports.report _ _ u
    (sym c.as_slice.ensures.value ∙ by_only c.keyword-item.is c.in-len1.len_at_least c.in-len1.len_below)) c.walk.ensures

pub returns-in_default : goal.returns-in_default
returns-in_default g c = c.walk_each.ensures
