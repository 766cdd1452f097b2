use Rattle.std.proofs.Common.{subst}
use Rattle.serde_json.specs.Data.{object}
use Rattle.serde_json.specs.View.{members_view}
use Rattle.olk_base.specs.Nodes.{subject_data}
use Rattle.olk_reports.specs.Evaluations.{shown_of}
use Rattle.olk_tree.specs.Additional.{sides_seen, required_text, required_place}
use Rattle.olk_evaluate.specs.Additional.{has_properties, has_patterns, place_of_patterns, required_of, members_found, places_wanted, names_of, Collects}
use Rattle.olk_evaluate.specs.Wanted.{ShowsMore}
use Rattle.olk_spec.specs.Schemas.{listed}
use Rattle.olk_evaluate.proofs.Additional.{beside_shown, other_shown}
use Rattle.olk_evaluate.proofs.Shows.{kept_same, shows_err, shows_by}
use Rattle.olk_evaluate.proofs.sides.show_sides.Goals as goal

pub returns-in_err-collected : goal.returns-in_err-collected
returns-in_err-collected g c = shows_err c.from_residual.ensures.0 c.collect.ensures.kept

pub returns-in_err-add_places : goal.returns-in_err-add_places
returns-in_err-add_places g c = shows_err c.from_residual-in_err-add_places.ensures.0 c.collect.ensures.kept

pub returns : goal.returns
returns g c =
    let found = c.in_ok-collected.collected in
    let ctx = c.args.ctx.now in
    let entries = c.in-Some.members.now.entries in
    let places = subst (λ Q. ShowsMore (places_wanted c.args.beside (names_of found.matched.items) (subject_data c.args.node) (object (members_view entries)) Q)
    (shown_of c.collect.new.outcome) (shown_of c.add_places.new.outcome)) c.collect.ensures.kept.path c.in_ok-add_places.ensures in
    shows_by c.complete.ensures c.collect.ensures.kept (λ u so _ completes.
    beside_shown g.R.RegexEngine.answers g.N.Show.tree g.N.Means.means u ctx.path (sides_seen c.args.sides) c.args.beside g.R.RegexEngine.costs (members_view entries) found
    (subst (λ shows. Collects (members_found g.R.RegexEngine.answers g.N.Show.tree g.N.Means.means u ctx.path (sides_seen c.args.sides) shows (listed (members_view entries))) found
    (shown_of c.args.outcome.now) (shown_of c.collect.new.outcome)) c.shows_matches.ensures (c.in_ok-collected.ensures.shown u so))
    c.requires.expects c.requires.nothing (subject_data c.args.node) c.in-Some.ensures places completes c.law_of_names.ensures)

pub returns-in_default : goal.returns-in_default
returns-in_default g c = record {
  shown = λ u so P. other_shown g.R.RegexEngine.answers (sides_seen c.args.sides) u P (place_of_patterns c.args.beside) c.args.ctx.now.path
      (required_text (required_of c.args.beside)) (required_place (required_of c.args.beside)) (subject_data c.args.node) c.in_default.ensures c.requires.nothing
      (has_properties c.args.beside) (has_patterns c.args.beside) (λ n. g.N.Show.tree n u) g.R.RegexEngine.costs g.N.Means.means;
  kept = kept_same;
}
