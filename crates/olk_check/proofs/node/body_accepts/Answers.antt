use Rattle.std.proofs.Common.{rules}
use Rattle.olk_base.specs.Kit.{kit}
use Rattle.olk_tree.specs.Validators.{validator_means}
use Rattle.olk_check.proofs.Walks.{keywords_asked}
use Rattle.olk_check.proofs.node.body_accepts.Goals as goal

pub returns-in-False : goal.returns-in-False
returns-in-False g c = search rules

pub returns-in-Keywords : goal.returns-in-Keywords
returns-in-Keywords g c =
    keywords_asked (validator_means (kit g.K.Leaf g.R.RegexEngine) g.N.Means.means) (g.A.Asked.stands_for c.args.asked) c.in-Keywords.is c.deref.ensures.value c.keywords_accept.ensures
