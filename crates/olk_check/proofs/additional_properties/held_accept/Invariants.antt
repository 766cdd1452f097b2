use Rattle.std.proofs.Common.{drop}
use Rattle.olk_check.specs.Unpatterned.{held_means}
use Rattle.olk_check.proofs.Walks.{AllLeft}
use Rattle.olk_check.proofs.additional_properties.held_accept.Given as goal

abbrev pub invariant-loop-entry : goal.invariant-loop-entry
invariant-loop-entry g l = AllLeft (held_means g.N.Means.means) l.held (drop l.entry-index l.held) l.initial.ctx l.ctx
