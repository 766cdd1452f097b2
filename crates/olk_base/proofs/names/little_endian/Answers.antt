use Rattle.std.proofs.Common.{◌∙◌}
use Rattle.olk_base.specs.Heads.{low_first}
use Rattle.olk_base.proofs.Heads.{low_first-written}
use Rattle.olk_base.proofs.names.little_endian.Goals as goal

pub returns : goal.returns
unfolding low_first
returns c = c.from_le_bytes.ensures ∙ low_first-written c.args.bytes.now c.copy_from_slice.new.self c.copy_from_slice.ensures.after
