use Rattle.olk_meaning.proofs.Fused.{member_lookup}
use Rattle.olk_meaning.proofs.members.member.Goals as goal

pub returns : goal.returns
returns c = member_lookup c.get.result c.args.name.now c.args.members.now.entries c.get.ensures.value
