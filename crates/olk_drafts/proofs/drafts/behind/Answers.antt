use Rattle.olk_drafts.proofs.Spellings.{strips_start}
use Rattle.olk_drafts.proofs.drafts.behind.Goals as goal

pub returns : goal.returns
returns c = strips_start c.strip_prefix.result c.args.start.now c.args.text.now c.strip_prefix.ensures.cases
