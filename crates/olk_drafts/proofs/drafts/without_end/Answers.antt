use Rattle.std.proofs.Common.{◌∙◌, ap}
use Rattle.olk_drafts.proofs.Spellings.{strips_end}
use Rattle.olk_drafts.proofs.drafts.without_end.Goals as goal

pub returns : goal.returns
returns c = ap (λ t. t.now) c.unwrap_or.ensures ∙ strips_end c.strip_suffix.result c.args.end.now c.args.text c.strip_suffix.ensures.cases
