use Rattle.std.proofs.Common.{refl}
use Rattle.olk_reports.specs.Paths.{path_at}
use Rattle.olk_tree.proofs.Lists.{next_at, past_end}
use Rattle.olk_tree.specs.Visited.{object_of}
use Rattle.olk_errors.proofs.Loops.{walking_start, walking_turn, walking_end}
use Rattle.olk_errors.proofs.Sinks.{ends_all, walks_by, walks_left}
use Rattle.olk_errors.specs.Outcomes.{of_patterns}
use Rattle.olk_errors.proofs.pattern_properties.walk_by_pattern.Goals as goal

pub loop-entry-init : goal.loop-entry-init
loop-entry-init g c = walking_start

pub loop-entry-preserved : goal.loop-entry-preserved
loop-entry-preserved g c = walking_turn c.loop-entry.invariant (next_at c.deref-entry-items.ensures.value c.entry-item.is c.loop-entry-test.true) c.in_ok-walk_matched.ensures

pub returns-in_err-walk_matched : goal.returns-in_err-walk_matched
returns-in_err-walk_matched g c = walks_by (λ u so. ends_all (of_patterns g.R.RegexEngine.answers g.R.RegexEngine.costs g.N.Means.means g.N.Reports.first g.N.Reports.report
    u
    c.args.patterns.now.items (object_of c.args.members.now.entries) (path_at c.args.trail.now)) c.requires refl)
    (walks_left c.from_residual.ensures.0 (walking_turn c.loop-entry.invariant
    (next_at c.deref-entry-items.ensures.value c.entry-item.is c.loop-entry-test.true) c.in_err-walk_matched.ensures))

pub returns : goal.returns
returns g c = walks_by (λ u so. ends_all (of_patterns g.R.RegexEngine.answers g.R.RegexEngine.costs g.N.Means.means g.N.Reports.first g.N.Reports.report u
    c.args.patterns.now.items (object_of c.args.members.now.entries) (path_at c.args.trail.now)) c.requires refl)
    (walking_end c.loop-entry.invariant (past_end c.deref-entry-items.ensures.value c.loop-entry-test.false))
