use Rattle.std.proofs.Common.{true, [], ◌∷◌}
use Rattle.olk_base.specs.Nodes.{subject_data}
use Rattle.olk_reports.specs.Evaluations.{shown_of}
use Rattle.olk_evaluate.proofs.If.{first_fits, second_fits}
use Rattle.olk_evaluate.proofs.Shows.{kept_asked, shows_then}
use Rattle.olk_check.proofs.Asked.{verdict_of, answer_first}
use Rattle.olk_evaluate.proofs.if_.IfElseShow.show.Goals as goal

pub returns-then-accepts : goal.returns-then-accepts
returns-then-accepts g c = shows_then (kept_asked c.if-accepts.ensures.only) c.show_one.ensures (λ u so _ shows.
    first_fits g.N.Show.tree g.N.Means.means (subject_data c.args.node) c.args.self.now.location c.args.ctx.now.path c.args.self.now.schema
    (shown_of c.args.outcome.now) (shown_of c.show_one.new.outcome) c.requires u
    (c.args.self.now.else_schema ∷ []) ((g.N.Means.means c.args.self.now.else_schema (subject_data c.args.node)).accepts u)
    (verdict_of c.if-accepts.ensures (answer_first c.if-accepts.ensures.only c.show_one.ensures.kept.only so)) shows)

pub returns-else-accepts : goal.returns-else-accepts
returns-else-accepts g c = shows_then (kept_asked c.if-accepts.ensures.only) c.show_one-else-accepts.ensures (λ u so _ shows.
    second_fits g.N.Show.tree g.N.Means.means (subject_data c.args.node) c.args.self.now.location c.args.ctx.now.path c.args.self.now.schema
    (shown_of c.args.outcome.now) (shown_of c.show_one-else-accepts.new.outcome) c.requires u
    c.args.self.now.else_schema [] true
    (verdict_of c.if-accepts.ensures (answer_first c.if-accepts.ensures.only c.show_one-else-accepts.ensures.kept.only so)) shows)
