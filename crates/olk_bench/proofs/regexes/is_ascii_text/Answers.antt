use Rattle.std.proofs.Common.{◌∙◌}
use Rattle.olk_base.proofs.Bodies.{same_chars}
use Rattle.olk_bench.proofs.regexes.is_ascii_text.Goals as goal

pub returns : goal.returns
returns c = c.eq.ensures ∙ same_chars c.args.text.now c.args.ascii.now c.utf8.text c.requires
