use Rattle.std.proofs.Common.{[], ◌∷◌}
use Rattle.olk_base.specs.Nodes.{subject_data}
use Rattle.olk_reports.specs.Evaluations.{shown_of}
use Rattle.olk_evaluate.proofs.If.{both_fit, second_fits}
use Rattle.olk_evaluate.proofs.Shows.{kept_asked, shows_then}
use Rattle.olk_check.proofs.Asked.{verdict_of, answer_first}
use Rattle.olk_evaluate.proofs.if_.IfThenElseShow.show.Goals as goal

pub returns-then-accepts : goal.returns-then-accepts
returns-then-accepts g c = shows_then (kept_asked c.if-accepts.ensures.only) c.show_both.ensures (λ u so _ shows.
    both_fit g.N.Show.tree g.N.Means.means (subject_data c.args.node) c.args.self.now.location c.args.ctx.now.path c.args.self.now.schema
    (shown_of c.args.outcome.now) (shown_of c.show_both.new.outcome) c.requires u
    c.args.self.now.then_schema (c.args.self.now.else_schema ∷ []) ((g.N.Means.means c.args.self.now.else_schema (subject_data c.args.node)).accepts u)
    (verdict_of c.if-accepts.ensures (answer_first c.if-accepts.ensures.only c.show_both.ensures.kept.only so)) shows)

pub returns-else-accepts : goal.returns-else-accepts
returns-else-accepts g c = shows_then (kept_asked c.if-accepts.ensures.only) c.show_one.ensures (λ u so _ shows.
    second_fits g.N.Show.tree g.N.Means.means (subject_data c.args.node) c.args.self.now.location c.args.ctx.now.path c.args.self.now.schema
    (shown_of c.args.outcome.now) (shown_of c.show_one.new.outcome) c.requires u
    c.args.self.now.else_schema (c.args.self.now.then_schema ∷ []) ((g.N.Means.means c.args.self.now.then_schema (subject_data c.args.node)).accepts u)
    (verdict_of c.if-accepts.ensures (answer_first c.if-accepts.ensures.only c.show_one.ensures.kept.only so)) shows)
