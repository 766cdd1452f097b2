use Rattle.olk_tree.specs.Properties.{properties_mean}
use Rattle.olk_check.proofs.Answered.{one_answered}
use Rattle.olk_check.proofs.properties.SmallPropertiesCheck.check.Goals as goal

pub returns : goal.returns
returns g c = one_answered c.properties_accept.result (λ i. properties_mean g.N.Means.means (c.as_map.ensures i) (g.A.Asked.stands_for c.args.asked)) c.is_some.ensures c.properties_accept.ensures
