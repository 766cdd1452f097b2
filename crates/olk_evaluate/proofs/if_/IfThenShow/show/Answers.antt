use Rattle.std.proofs.Common.{true, [], ◌∷◌}
use Rattle.olk_base.specs.Nodes.{subject_data}
use Rattle.olk_reports.specs.Evaluations.{shown_of}
use Rattle.olk_evaluate.proofs.If.{both_fit, none_fits}
use Rattle.olk_evaluate.proofs.Shows.{kept_asked, shows_then}
use Rattle.olk_check.proofs.Asked.{verdict_of, answer_first}
use Rattle.olk_evaluate.proofs.if_.IfThenShow.show.Goals as goal

pub returns-then-not-accepts : goal.returns-then-not-accepts
returns-then-not-accepts g c = record {
  shown = λ u so. none_fits g.N.Show.tree g.N.Means.means (subject_data c.args.node) c.args.self.now.location c.args.ctx.now.path c.args.self.now.schema
      (shown_of c.args.outcome.now) (shown_of c.args.outcome.now) c.requires u
      (c.args.self.now.then_schema ∷ []) ((g.N.Means.means c.args.self.now.then_schema (subject_data c.args.node)).accepts u)
      (verdict_of c.if-not-accepts.ensures so) c.requires;
  kept = kept_asked c.if-not-accepts.ensures.only;
}

pub returns : goal.returns
returns g c = shows_then (kept_asked c.if-not-accepts.ensures.only) c.show_both.ensures (λ u so _ shows.
    both_fit g.N.Show.tree g.N.Means.means (subject_data c.args.node) c.args.self.now.location c.args.ctx.now.path c.args.self.now.schema
    (shown_of c.args.outcome.now) (shown_of c.show_both.new.outcome) c.requires u
    c.args.self.now.then_schema [] true (verdict_of c.if-not-accepts.ensures (answer_first c.if-not-accepts.ensures.only c.show_both.ensures.kept.only so)) shows)
