use Rattle.olk_check.proofs.Answered.{answered_one}
use Rattle.olk_check.proofs.properties.members_accepted.Goals as goal

pub returns : goal.returns
returns g c = answered_one c.one_if.ensures c.all_accepted.ensures
