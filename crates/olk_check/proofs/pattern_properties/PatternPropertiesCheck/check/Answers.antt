use Rattle.std.proofs.Common.{true, sym}
use Rattle.olk_tree.proofs.Patterns.{patterns_nothing}
use Rattle.olk_check.proofs.Asked.{asks_as, unasked}
use Rattle.olk_check.proofs.pattern_properties.PatternPropertiesCheck.check.Goals as goal

pub returns-in-None : goal.returns-in-None
returns-in-None g c = asks_as (sym (patterns_nothing g.R.RegexEngine.answers (g.A.Asked.stands_for c.args.asked) c.in-None.ensures g.R.RegexEngine.costs g.N.Means.means c.args.self.now.patterns.items)) (unasked c.args.ctx.now true)
