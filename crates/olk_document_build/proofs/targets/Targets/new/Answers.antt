use Rattle.std.proofs.Common.{refl}
use Rattle.olk_document_build.proofs.targets.Targets.new.Goals as goal

pub returns : goal.returns
returns g c t = rw c.new.ensures.empty refl
