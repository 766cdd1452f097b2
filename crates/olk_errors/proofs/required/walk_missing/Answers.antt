use Rattle.std.proofs.Common.{[], ◌∷◌, sym, ap, ◌∙◌}
use Rattle.olk_base.specs.Nodes.{subject_data}
use Rattle.olk_reports.specs.Paths.{path_at}
use Rattle.olk_tree.proofs.Lists.{next_at, past_end}
use Rattle.olk_errors.proofs.Loops.{walked_start, walked_turn, walked_end}
use Rattle.olk_errors.proofs.Missing.{names_together}
use Rattle.olk_errors.proofs.Sinks.{goes_same, ends_left, ends_same}
use Rattle.olk_errors.specs.Outcomes.{of_names}
use Rattle.olk_errors.proofs.required.walk_missing.Goals as goal

pub loop-name-init : goal.loop-name-init
loop-name-init c = walked_start

pub loop-name-preserved : goal.loop-name-preserved
loop-name-preserved c = walked_turn c.loop-name.invariant (c.name-item.result ∷ []) _ (next_at c.deref-name-items.ensures.value c.name-item.is c.loop-name-test.true)
    (ends_same (ap (λ n. of_names (n ∷ []) (subject_data c.args.node) c.args.location.now (path_at c.args.trail.now)) c.as_str.ensures.value ∙ sym
    (names_together (subject_data c.args.node) c.args.location.now (path_at c.args.trail.now) (c.name-item.result ∷ []))) c.in_ok-report_if_missing.ensures)

pub returns-in_err-report_if_missing : goal.returns-in_err-report_if_missing
returns-in_err-report_if_missing c = ends_same (names_together (subject_data c.args.node) c.args.location.now (path_at c.args.trail.now) c.args.names.now.items)
    (ends_left c.from_residual.ensures.0 (walked_turn c.loop-name.invariant (c.name-item.result ∷ []) _ (next_at c.deref-name-items.ensures.value c.name-item.is c.loop-name-test.true)
    (ends_same (ap (λ n. of_names (n ∷ []) (subject_data c.args.node) c.args.location.now (path_at c.args.trail.now)) c.as_str.ensures.value ∙ sym
    (names_together (subject_data c.args.node) c.args.location.now (path_at c.args.trail.now) (c.name-item.result ∷ []))) c.in_err-report_if_missing.ensures)).so)

pub returns : goal.returns
returns c = record {
  so = goes_same (names_together (subject_data c.args.node) c.args.location.now (path_at c.args.trail.now) c.args.names.now.items)
      (walked_end c.loop-name.invariant (past_end c.deref-name-items.ensures.value c.loop-name-test.false));
}

pub report_if_missing-requires : goal.report_if_missing-requires
report_if_missing-requires c = c.requires
