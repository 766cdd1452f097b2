use Rattle.std.proofs.Common.{refl, ap}
use Rattle.serde_json.specs.View.{members_view}
use Rattle.olk_spec.specs.Schemas.{listed}
use Rattle.olk_reports.specs.Evaluations.{shown_of}
use Rattle.olk_tree.proofs.Due.{name_next, no_name_next}
use Rattle.olk_evaluate.proofs.Members.{meets_nothing, meets_both}
use Rattle.olk_evaluate.proofs.Patterns.{matches_among, match_next}
use Rattle.olk_evaluate.proofs.Shows.{kept_asked, kept_then, shows_err, leaves_none, each_all, each_same, each_rest}
use Rattle.olk_check.proofs.Asked.{verdict_of}
use Rattle.olk_evaluate.proofs.pattern_properties.show_matched.Goals as goal

pub loop-name-init : goal.loop-name-init
loop-name-init g c = each_all (λ u. ap (λ es. matches_among g.R.RegexEngine.answers u c.args.pattern.now (listed (members_view es))) c.into_iter-name-iterator.ensures.into_iter_gives.0)

pub loop-name-preserved-then-not-matches : goal.loop-name-preserved-then-not-matches
loop-name-preserved-then-not-matches g c = each_same c.loop-name.invariant
    (λ u so. match_next g.R.RegexEngine.answers c.args.pattern.now (name_next c.in-Some.ensures.steps c.as_str-name.ensures.value) (verdict_of c.if-not-matches.ensures so) refl)
    (kept_asked c.matches.ensures.only)

pub loop-name-preserved : goal.loop-name-preserved
loop-name-preserved g c = each_rest (each_same c.loop-name.invariant
    (λ u so. match_next g.R.RegexEngine.answers c.args.pattern.now (name_next c.in-Some.ensures.steps c.as_str-name.ensures.value) (verdict_of c.if-not-matches.ensures so) refl)
    (kept_asked c.matches.ensures.only)) (λ u so. refl)
    (λ u so _. meets_both (c.in_ok-show_member.ensures.shown u so)) c.show_member.ensures.kept

pub returns-in_err-show_member : goal.returns-in_err-show_member
returns-in_err-show_member g c = shows_err c.from_residual.ensures.0 (kept_then c.loop-name.invariant.kept (kept_then (kept_asked c.matches.ensures.only) c.show_member.ensures.kept))

pub returns : goal.returns
returns g c = record {
  shown = λ u so. leaves_none c.loop-name.invariant (ap (matches_among g.R.RegexEngine.answers u c.args.pattern.now) (no_name_next c.in-None.ensures.steps.0)) so
      (meets_nothing (shown_of c.loop-name.outcome));
  kept = c.loop-name.invariant.kept;
}
