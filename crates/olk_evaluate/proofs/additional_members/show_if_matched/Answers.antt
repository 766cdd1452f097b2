use Rattle.std.proofs.Common.{[], ◌∷◌, ◌∙◌}
use Rattle.serde_json.specs.View.{view}
use Rattle.olk_spec.specs.Names.{◌//◌}
use Rattle.olk_base.specs.Compiled.{pattern_answers, pattern_costs}
use Rattle.olk_reports.specs.Evaluations.{shown_of}
use Rattle.olk_tree.specs.AdditionalAgreement.{match_is_said}
use Rattle.olk_tree.specs.Tables.{known_says}
use Rattle.olk_evaluate.specs.Wanted.{ShowsMore, wanted}
use Rattle.olk_evaluate.proofs.Children.{shows_none}
use Rattle.olk_evaluate.proofs.Shows.{kept_asked, kept_then, as_before, shows_err}
use Rattle.olk_check.proofs.Asked.{verdict_of, answer_first, answer_then}
use Rattle.olk_evaluate.proofs.additional_members.show_if_matched.Goals as goal

pub returns-then-not-matches_unless_known : goal.returns-then-not-matches_unless_known
returns-then-not-matches_unless_known g c = record {
  shown = λ u so. (
    verdict_of c.if-not-matches_unless_known.ensures so ∙ match_is_said u (pattern_costs g.R.RegexEngine.costs c.args.entry.now.0) (known_says c.args.known)
        (pattern_answers g.R.RegexEngine.answers c.args.entry.now.0 c.args.member.0.now),
    shows_none (shown_of c.args.outcome.now),
  );
  kept = kept_asked c.if-not-matches_unless_known.ensures.only;
}

pub returns-in_err-add_child_below : goal.returns-in_err-add_child_below
returns-in_err-add_child_below g c = shows_err c.from_residual.ensures.0 (kept_then (kept_asked c.if-not-matches_unless_known.ensures.only) c.add_child_below.ensures.kept)

pub returns : goal.returns
returns g c =
    let asked = kept_asked c.if-not-matches_unless_known.ensures.only in
    record {
      shown = λ u so. (
        verdict_of c.if-not-matches_unless_known.ensures (answer_first asked.only c.add_child_below.ensures.kept.only so) ∙ match_is_said u (pattern_costs g.R.RegexEngine.costs c.args.entry.now.0) (known_says c.args.known)
            (pattern_answers g.R.RegexEngine.answers c.args.entry.now.0 c.args.member.0.now),
        as_before (λ Q. ShowsMore (wanted g.N.Show.tree g.N.Means.means u c.args.entry.now.1 (view c.args.member.1.now) (Q // c.args.member.0.now) ∷ [])
            (shown_of c.args.outcome.now) (shown_of c.add_child_below.new.outcome)) asked (c.in_ok-add_child_below.ensures.shown u (answer_then asked.only c.add_child_below.ensures.kept.only so)),
      );
      kept = kept_then asked c.add_child_below.ensures.kept;
    }
