use Rattle.std.proofs.Common.{true, false, sym, ap, ◌∙◌}
use Rattle.olk_base.specs.Nodes.{subject_data}
use Rattle.olk_spec.specs.Names.{is_empty}
use Rattle.olk_reports.specs.Evaluations.{shown_of}
use Rattle.olk_reports.proofs.Errors.{kind_of_false_schema}
use Rattle.olk_tree.proofs.Members_met.{no_members}
use Rattle.olk_tree.proofs.Due.{has_none}
use Rattle.olk_evaluate.proofs.OwnErrors.{adds_none, adds_as, members_shown}
use Rattle.olk_evaluate.proofs.Shows.{kept_same, shows_by}
use Rattle.olk_evaluate.proofs.property_names.PropertyNamesFalseShow.show.Goals as goal

pub returns-in-None : goal.returns-in-None
returns-in-None c = record {
  shown = λ u so. members_shown (subject_data c.args.node) c.args.self.now.location c.args._ctx.now.path true (sym (ap is_empty (no_members (subject_data c.args.node) c.in-None.ensures))) c.requires
      (adds_none (shown_of c.args.outcome.now));
  kept = kept_same;
}

pub returns-then-is_empty : goal.returns-then-is_empty
returns-then-is_empty c = record {
  shown = λ u so. members_shown (subject_data c.args.node) c.args.self.now.location c.args._ctx.now.path true
      (sym c.if-is_empty.true ∙ has_none (subject_data c.args.node) c.in-Some.members.now.entries c.in-Some.ensures c.is_empty.result c.is_empty.ensures.0 c.is_empty.ensures.1) c.requires
      (adds_none (shown_of c.args.outcome.now));
  kept = kept_same;
}

pub returns-else-is_empty : goal.returns-else-is_empty
returns-else-is_empty c = shows_by c.mark_errored_by.ensures.added kept_same (λ u so _ added.
    members_shown (subject_data c.args.node) c.args.self.now.location c.args._ctx.now.path false
    (sym c.if-is_empty.false ∙ has_none (subject_data c.args.node) c.in-Some.members.now.entries c.in-Some.ensures c.is_empty.result c.is_empty.ensures.0 c.is_empty.ensures.1) c.requires
    (adds_as kind_of_false_schema c.node.ensures (added c.args.self.now.location c.args._ctx.now.path)))
