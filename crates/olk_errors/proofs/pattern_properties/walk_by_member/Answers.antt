use Rattle.std.proofs.Common.{ap}
use Rattle.serde_json.specs.View.{members_view}
use Rattle.olk_spec.specs.Schemas.{listed}
use Rattle.olk_reports.specs.Paths.{path_at}
use Rattle.olk_tree.proofs.Due.{name_next, no_name_next}
use Rattle.olk_tree.specs.Visited.{object_of}
use Rattle.olk_errors.proofs.Loops.{walking_from, walking_turn, walking_end}
use Rattle.olk_errors.proofs.Patterns.{patterns_pass, patterns_err}
use Rattle.olk_errors.proofs.Sinks.{ends_first, walks_by, walks_left}
use Rattle.olk_errors.specs.Outcomes.{of_patterns}
use Rattle.olk_errors.proofs.pattern_properties.walk_by_member.Goals as goal

pub loop-name-init : goal.loop-name-init
loop-name-init g c = walking_from (ap (λ es. listed (members_view es)) c.into_iter-name-iterator.ensures.into_iter_gives.0)

pub loop-name-preserved : goal.loop-name-preserved
loop-name-preserved g c = walking_turn c.loop-name.invariant (name_next c.in-Some.ensures.steps c.as_str.ensures.value) c.in_ok-walk_matching.ensures

pub returns-in_err-walk_matching : goal.returns-in_err-walk_matching
returns-in_err-walk_matching g c = walks_by (λ u so. ends_first (of_patterns g.R.RegexEngine.answers g.R.RegexEngine.costs g.N.Means.means g.N.Reports.first g.N.Reports.report
    u
    c.args.patterns.now.items (object_of c.args.members.now.entries) (path_at c.args.trail.now)) c.requires
    (patterns_pass g.R.RegexEngine.answers g.R.RegexEngine.costs g.N.Means.means g.N.Reports.first g.N.Reports.report u _
    c.args.patterns.now.items (members_view c.args.members.now.entries))
    (patterns_err g.R.RegexEngine.answers g.R.RegexEngine.costs g.N.Means.means g.N.Reports.first g.N.Reports.report u _
    c.args.patterns.now.items (members_view c.args.members.now.entries)))
    (walks_left c.from_residual.ensures.0 (walking_turn c.loop-name.invariant (name_next c.in-Some.ensures.steps c.as_str.ensures.value) c.in_err-walk_matching.ensures))

pub returns : goal.returns
returns g c = walks_by (λ u so. ends_first (of_patterns g.R.RegexEngine.answers g.R.RegexEngine.costs g.N.Means.means g.N.Reports.first g.N.Reports.report u
    c.args.patterns.now.items (object_of c.args.members.now.entries) (path_at c.args.trail.now)) c.requires
    (patterns_pass g.R.RegexEngine.answers g.R.RegexEngine.costs g.N.Means.means g.N.Reports.first g.N.Reports.report u _
    c.args.patterns.now.items (members_view c.args.members.now.entries))
    (patterns_err g.R.RegexEngine.answers g.R.RegexEngine.costs g.N.Means.means g.N.Reports.first g.N.Reports.report u _
    c.args.patterns.now.items (members_view c.args.members.now.entries)))
    (walking_end c.loop-name.invariant (no_name_next c.in-None.ensures.steps.0))
