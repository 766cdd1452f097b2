use Rattle.olk_drafts.proofs.Values.{member_found}
use Rattle.olk_drafts.proofs.keywords.member.Goals as goal

pub returns : goal.returns
returns c = member_found c.get.result c.args.name.now c.args.members.now.entries c.get.ensures.value
