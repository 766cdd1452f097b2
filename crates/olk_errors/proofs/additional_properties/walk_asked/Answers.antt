use Rattle.std.proofs.Common.{refl, ℕ, arith, ◌∙◌, option_map}
use Rattle.std.proofs.lemmas.Result.{IfOk-weaker}
use Rattle.serde_json.specs.View.{view}
use Rattle.olk_spec.proofs.Maps.{is_some-map}
use Rattle.olk_reports.specs.Paths.{path_at}
use Rattle.olk_tree.proofs.Lists.{next_at, past_end}
use Rattle.olk_tree.specs.Additional.{sides_seen}
use Rattle.olk_errors.proofs.Additional.{asked_member, named_turn, pattern_turn, spoken_expected, rest_unexpected, spoken_end, rest_end, pattern_left}
use Rattle.olk_errors.proofs.Sinks.{walks_left}
use Rattle.olk_errors.proofs.additional_properties.walk_asked.Goals as goal

pub returns-in_err-walk_declared-clause-walk : goal.returns-in_err-walk_declared-clause-walk
returns-in_err-walk_declared-clause-walk g c = walks_left c.from_residual.ensures.0
    (named_turn (asked_member g.R.RegexEngine.answers g.N.Means.means g.N.Reports.first g.N.Reports.report (sides_seen c.args.sides)
    (option_map {U = ℕ × g.row.N.Denot} (λ f. (f.0, f.1.now)) c.args.declared) c.args.name.now (view c.args.value.now))
    (path_at c.args.trail.now) refl c.in_err-walk_declared.ensures)

pub loop-index-init : goal.loop-index-init
loop-index-init g c = named_turn _ (path_at c.args.trail.now) (c.is_some-spoken.ensures ∙ is_some-map (λ f. (f.0, f.1.now)) c.args.declared) c.in_ok-walk_declared.ensures

pub loop-index-preserved : goal.loop-index-preserved
loop-index-preserved g c = pattern_turn _ c.loop-index.invariant (next_at refl c.entry-item.is c.loop-index-test.true) c.known-known.ensures
    c.in_ok-is_match.ensures.matches c.in_ok-is_match.ensures.walk

pub returns-in_err-is_match-clause-walk : goal.returns-in_err-is_match-clause-walk
returns-in_err-is_match-clause-walk g c = walks_left c.from_residual-in_err-is_match.ensures.0
    (pattern_left _ c.loop-index.invariant (next_at refl c.entry-item.is c.loop-index-test.true) c.known-known.ensures
    c.in_err-is_match.ensures.walk)

pub returns-then-spoken : goal.returns-then-spoken
returns-then-spoken g c = let none = past_end {xs = c.args.sides.patterns.now} {i = c.loop-index.index} refl (omega arith) in
    record { unexpected = spoken_expected _ c.loop-index.invariant none c.if-spoken.true; walk = spoken_end _ c.loop-index.invariant none c.if-spoken.true }

pub returns : goal.returns
returns g c = let none = past_end {xs = c.args.sides.patterns.now} {i = c.loop-index.index} refl (omega arith) in
    record {
      unexpected = IfOk-weaker c.walk_rest.result _ _ (λ b is. rest_unexpected _ c.loop-index.invariant none c.walk_rest.ensures.walk.only c.if-spoken.false is) c.walk_rest.ensures.unexpected;
      walk = rest_end _ c.loop-index.invariant none c.if-spoken.false c.walk_rest.ensures.walk;
    }
