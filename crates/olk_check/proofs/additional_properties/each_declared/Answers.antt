use Rattle.std.proofs.Common.{None}
use Rattle.olk_tree.specs.Visited.{object_of}
use Rattle.olk_check.specs.Unpatterned.{names_mean}
use Rattle.olk_check.proofs.Answered.{answered_one}
use Rattle.olk_check.proofs.Asked.{asks_as}
use Rattle.olk_check.proofs.additional_properties.each_declared.Goals as goal

pub returns : goal.returns
returns g c = answered_one c.one_if.ensures
    (asks_as (λ i. names_mean g.N.Means.means (c.entries.ensures i) None (object_of c.args.members.now.entries)) c.each_declared_or_rest.ensures)
