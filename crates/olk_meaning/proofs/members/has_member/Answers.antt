use Rattle.std.proofs.Common.{◌∙◌}
use Rattle.olk_meaning.proofs.Fused.{has_lookup}
use Rattle.olk_meaning.proofs.members.has_member.Goals as goal

pub returns : goal.returns
returns c = c.contains_key.ensures ∙ has_lookup c.args.name.now c.args.members.now.entries
