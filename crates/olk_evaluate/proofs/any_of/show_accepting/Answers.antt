use Rattle.std.proofs.Common.{refl, ap}
use Rattle.olk_base.specs.Nodes.{subject_data}
use Rattle.olk_spec.specs.Names.{filter_once}
use Rattle.olk_tree.proofs.Lists.{next_at, past_end}
use Rattle.olk_reports.specs.Evaluations.{shown_of}
use Rattle.olk_evaluate.specs.Wanted.{ShowsMore, each_wanted}
use Rattle.olk_evaluate.proofs.Branches.{accepting_alone, all_refused, counted}
use Rattle.olk_evaluate.proofs.Children.{shows_none, shows_both, those_next}
use Rattle.olk_evaluate.proofs.Shows.{as_before, kept_asked, kept_then, leaves_none, shows_err, each_all, each_same, each_rest}
use Rattle.olk_check.proofs.Asked.{verdict_of, answer_first, answer_then}
use Rattle.olk_evaluate.proofs.any_of.show_accepting.Goals as goal

pub loop-schema-init : goal.loop-schema-init
loop-schema-init g c = each_all (λ u. refl)

pub loop-schema-preserved-then-not-accepts : goal.loop-schema-preserved-then-not-accepts
loop-schema-preserved-then-not-accepts g c =
    let next = next_at c.deref-schema-items.ensures.value c.schema-item.is c.loop-schema-test.true in
    each_same c.loop-schema.invariant (λ u so. those_next _ next (verdict_of c.if-not-accepts.ensures so)) (kept_asked c.accepts.ensures.only)

pub loop-schema-preserved : goal.loop-schema-preserved
loop-schema-preserved g c =
    let next = next_at c.deref-schema-items.ensures.value c.schema-item.is c.loop-schema-test.true in
    each_rest (each_same c.loop-schema.invariant (λ u so. those_next _ next (verdict_of c.if-not-accepts.ensures so)) (kept_asked c.accepts.ensures.only)) (λ u so. refl)
    (λ u so _. shows_both (c.in_ok-add_child.ensures.shown u so)) c.add_child.ensures.kept

pub returns-in_err-add_child : goal.returns-in_err-add_child
returns-in_err-add_child g c = shows_err c.from_residual.ensures.0 (kept_then c.loop-schema.invariant.kept (kept_then (kept_asked c.accepts.ensures.only) c.add_child.ensures.kept))

pub returns-in_ok-show_each : goal.returns-in_ok-show_each
returns-in_ok-show_each g c = record {
  shown = λ u so.
      let found = leaves_none c.loop-schema.invariant (ap (filter_once (λ n. (g.N.Means.means n (subject_data c.args.node)).accepts u))
      (past_end c.deref-schema-items.ensures.value c.loop-schema-test.false)) (answer_first c.loop-schema.invariant.kept.only c.show_each.ensures.kept.only so) (shows_none (shown_of c.loop-schema.outcome)) in
      all_refused g.N.Show.tree g.N.Means.means u (subject_data c.args.node) c.args.ctx.now.path c.args.ctx.now.path c.args.schemas.now.items c.requires c.loop-schema.outcome found (counted _ c.children-count.ensures.nodes refl)
      c.if-count-eq0.true
      (as_before (λ Q. ShowsMore (each_wanted g.N.Show.tree g.N.Means.means u c.args.schemas.now.items (subject_data c.args.node) Q) (shown_of c.loop-schema.outcome) (shown_of c.show_each.new.outcome))
      c.loop-schema.invariant.kept (c.in_ok-show_each.ensures.shown u (answer_then c.loop-schema.invariant.kept.only c.show_each.ensures.kept.only so))) c.mark_invalid.ensures;
  kept = kept_then c.loop-schema.invariant.kept c.show_each.ensures.kept;
}

pub returns-in_err-show_each : goal.returns-in_err-show_each
returns-in_err-show_each g c = shows_err c.from_residual-in_err-show_each.ensures.0 (kept_then c.loop-schema.invariant.kept c.show_each.ensures.kept)

pub returns-else-count-eq0 : goal.returns-else-count-eq0
returns-else-count-eq0 g c = record {
  shown = λ u so.
      let found = leaves_none c.loop-schema.invariant (ap (filter_once (λ n. (g.N.Means.means n (subject_data c.args.node)).accepts u))
      (past_end c.deref-schema-items.ensures.value c.loop-schema-test.false)) so (shows_none (shown_of c.loop-schema.outcome)) in
      accepting_alone g.N.Show.tree g.N.Means.means u (subject_data c.args.node) c.args.ctx.now.path c.args.ctx.now.path c.args.schemas.now.items c.requires c.loop-schema.outcome found
      (counted _ c.children-count.ensures.nodes refl) c.if-count-eq0.false;
  kept = c.loop-schema.invariant.kept;
}
