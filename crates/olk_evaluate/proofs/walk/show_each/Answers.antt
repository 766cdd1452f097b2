use Rattle.std.proofs.Common.{refl}
use Rattle.olk_reports.specs.Evaluations.{shown_of}
use Rattle.olk_tree.proofs.Lists.{next_at, past_end}
use Rattle.olk_evaluate.proofs.Children.{shows_none, shows_both, shows_from}
use Rattle.olk_evaluate.proofs.Shows.{kept_same, kept_then, shows_err, leaves_all, leaves_rest, leaves_none}
use Rattle.olk_evaluate.proofs.walk.show_each.Goals as goal

pub returns-in_err-reserve_children : goal.returns-in_err-reserve_children
returns-in_err-reserve_children g c = shows_err c.from_residual.ensures.0 kept_same

pub loop-schema-init : goal.loop-schema-init
loop-schema-init g c = leaves_all refl

pub loop-schema-preserved : goal.loop-schema-preserved
loop-schema-preserved g c = leaves_rest c.loop-schema.invariant (next_at c.deref-schema-items.ensures.value c.schema-item.is c.loop-schema-test.true)
    (λ u so _. shows_both (c.in_ok-add_child.ensures.shown u so)) c.add_child.ensures.kept

pub returns-in_err-add_child : goal.returns-in_err-add_child
returns-in_err-add_child g c = shows_err c.from_residual-in_err-add_child.ensures.0 (kept_then c.loop-schema.invariant.kept c.add_child.ensures.kept)

pub returns : goal.returns
returns g c = record {
  shown = λ u so. shows_from c.reserve_children.ensures
      (leaves_none c.loop-schema.invariant (past_end c.deref-schema-items.ensures.value c.loop-schema-test.false) so (shows_none (shown_of c.loop-schema.outcome)));
  kept = c.loop-schema.invariant.kept;
}
