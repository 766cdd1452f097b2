use Rattle.std.proofs.Common.{ℕ, Bor, refl, ap, subst, ◌∷◌, [], ◌∙◌}
use Rattle.std.proofs.lemmas.List.{map-append}
use Rattle.serde_json.specs.View.{view}
use Rattle.olk_spec.proofs.Maps.{is_some-map}
use Rattle.olk_reports.specs.Evaluations.{shown_of}
use Rattle.olk_tree.proofs.Lists.{next_at, past_end}
use Rattle.olk_evaluate.specs.Additional.{names_of, nodes_wanted}
use Rattle.olk_evaluate.specs.Wanted.{ShowsMore}
use Rattle.olk_evaluate.proofs.Collected.{same_nodes, declared_done, pattern_done, patterns_done, rest_done}
use Rattle.olk_evaluate.proofs.Shows.{kept_then, shows_err, shows_then}
use Rattle.olk_check.proofs.Asked.{answer_first}
use Rattle.olk_evaluate.proofs.additional_members.collect_member.Goals as goal

pub returns-in_err-show_declared : goal.returns-in_err-show_declared
returns-in_err-show_declared g c = shows_err c.from_residual.ensures.0 c.show_declared.ensures.kept

pub loop-index-init : goal.loop-index-init
loop-index-init g c =
    declared_done (c.is_some-spoken.ensures ∙ is_some-map {X = ℕ × Bor g.row.N.Denot} {Y = ℕ × g.row.N.Denot} (λ f. (f.0, f.1.now)) c.args.declared)
    (λ u so. subst (λ ns. ShowsMore (nodes_wanted g.N.Show.tree g.N.Means.means u c.args.ctx.now.path c.args.member.0.now (view c.args.member.1.now) ns)
    (shown_of c.args.outcome.now) (shown_of c.show_declared.new.outcome)) (same_nodes c.args.declared) (c.in_ok-show_declared.ensures.shown u so)) c.show_declared.ensures.kept

pub returns-in_err-is_match : goal.returns-in_err-is_match
returns-in_err-is_match g c = shows_err c.from_residual-in_err-is_match.ensures.0 (kept_then c.loop-index.invariant.kept c.show_if_matched.ensures.kept)

pub loop-index-preserved : goal.loop-index-preserved
loop-index-preserved g c =
    pattern_done c.loop-index.invariant (next_at refl c.entry-item.is c.loop-index-test.true) c.known-known.ensures (λ u so. (c.in_ok-is_match.ensures.shown u so).0)
    (λ u so. (c.in_ok-is_match.ensures.shown u so).1) refl c.in_ok-push_if.ensures c.show_if_matched.ensures.kept

pub returns-then-spoken : goal.returns-then-spoken
returns-then-spoken g c = record { shown = λ u so. patterns_done c.loop-index.invariant (past_end refl c.loop-index-test.false) c.if-spoken.true so; kept = c.loop-index.invariant.kept }

pub returns : goal.returns
returns g c = shows_then c.loop-index.invariant.kept c.show_rest.ensures
    (λ u so _. rest_done c.loop-index.invariant (past_end refl c.loop-index-test.false) c.if-spoken.false
    (ap names_of c.in_ok-push.ensures.items ∙ map-append (λ n. n.now) c.loop-index.collected.additional.items (c.args.member.0 ∷ [])) refl
    (answer_first c.loop-index.invariant.kept.only c.show_rest.ensures.kept.only so))

pub returns-in_err-push_if : goal.returns-in_err-push_if
returns-in_err-push_if g c = shows_err c.from_residual-in_err-push_if.ensures.0 (kept_then c.loop-index.invariant.kept c.show_if_matched.ensures.kept)

pub returns-in_err-push : goal.returns-in_err-push
returns-in_err-push g c = shows_err c.from_residual-in_err-push.ensures.0 c.loop-index.invariant.kept
