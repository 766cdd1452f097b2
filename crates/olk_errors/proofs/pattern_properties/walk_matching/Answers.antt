use Rattle.olk_tree.proofs.Lists.{next_at, past_end}
use Rattle.olk_errors.proofs.Loops.{walking_start, walking_turn, walking_end}
use Rattle.olk_errors.proofs.Patterns.{matching_of_walk}
use Rattle.olk_errors.proofs.Sinks.{walks_same, walks_left}
use Rattle.olk_errors.proofs.pattern_properties.walk_matching.Goals as goal

pub loop-entry-init : goal.loop-entry-init
loop-entry-init g c = walking_start

pub loop-entry-preserved : goal.loop-entry-preserved
loop-entry-preserved g c = walking_turn c.loop-entry.invariant (next_at c.deref-entry-items.ensures.value c.entry-item.is c.loop-entry-test.true) c.in_ok-walk_if_matched.ensures

pub returns-in_err-walk_if_matched : goal.returns-in_err-walk_if_matched
returns-in_err-walk_if_matched g c = walks_same (λ u so. matching_of_walk g.R.RegexEngine.answers g.R.RegexEngine.costs g.N.Means.means g.N.Reports.first g.N.Reports.report
    u _ c.args.patterns.now.items c.args.name.now _)
    (walks_left c.from_residual.ensures.0 (walking_turn c.loop-entry.invariant
    (next_at c.deref-entry-items.ensures.value c.entry-item.is c.loop-entry-test.true) c.in_err-walk_if_matched.ensures))

pub returns : goal.returns
returns g c = walks_same (λ u so. matching_of_walk g.R.RegexEngine.answers g.R.RegexEngine.costs g.N.Means.means g.N.Reports.first g.N.Reports.report u _
    c.args.patterns.now.items c.args.name.now _)
    (walking_end c.loop-entry.invariant (past_end c.deref-entry-items.ensures.value c.loop-entry-test.false))
