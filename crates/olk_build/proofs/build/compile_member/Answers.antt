use Rattle.std.proofs.Common.{refl, sym, ◌∙◌, ap}
use Rattle.olk_tree.specs.Steps.{layer}
use Rattle.serde_json.specs.View.{view, members_view}
use Rattle.olk_build.specs.Standing.{is_taken}
use Rattle.olk_build.proofs.Spending.{exit}
use Rattle.olk_build.proofs.Member.{taken_built, unread_memory, part_refused, taken_refused, read_memory, member_built}
use Rattle.olk_build.proofs.build.compile_member.Goals as goal

pub returns-then-is_taken-clause-built : goal.returns-then-is_taken-clause-built
returns-then-is_taken-clause-built g c member =
    taken_built (layer g.L.Leaf.Leaf g.M.Engine.RegexEngine) g.N.BuiltNode.answers (members_view c.args.parent.now.entries) c.args.ctx.now.place c.args.name.now (view c.args.value.now) c.args.ctx.now.meter.now
    (ap (λ p. is_taken p c.args.name.now) (sym c.of-plan.ensures.plan) ∙ sym c.is_taken.ensures ∙ c.if-is_taken.true)

pub returns-in_err-location-clause-refused : goal.returns-in_err-location-clause-refused
returns-in_err-location-clause-refused g c member =
    exit _ _ _ c.from_residual.ensures.1 (unread_memory (layer g.L.Leaf.Leaf g.M.Engine.RegexEngine) g.N.BuiltNode.answers (members_view c.args.parent.now.entries) c.args.ctx.now.place c.args.name.now (view c.args.value.now) c.args.ctx.now.meter.now)

pub returns-in_err-part-clause-refused : goal.returns-in_err-part-clause-refused
returns-in_err-part-clause-refused g c member =
    exit _ _ _ c.from_residual-in_err-part.ensures.1 (λ e q. part_refused (layer g.L.Leaf.Leaf g.M.Engine.RegexEngine) g.N.BuiltNode.answers (members_view c.args.parent.now.entries) c.args.ctx.now.place c.args.name.now (view c.args.value.now) c.args.ctx.now.meter.now
    (ap (λ p. is_taken p c.args.name.now) (sym c.of-plan.ensures.plan) ∙ sym c.is_taken.ensures ∙ c.if-is_taken.false) member c.of-neighbours.ensures c.in_ok-location.ensures refl (rw q c.in_err-part.ensures.refused))

pub returns-in_err-taken-clause-refused : goal.returns-in_err-taken-clause-refused
returns-in_err-taken-clause-refused g c member =
    exit _ _ _ c.from_residual-in_err-taken.ensures.1 (λ e q. taken_refused (layer g.L.Leaf.Leaf g.M.Engine.RegexEngine) g.N.BuiltNode.answers (members_view c.args.parent.now.entries) c.args.ctx.now.place c.args.name.now (view c.args.value.now) c.args.ctx.now.meter.now
    (ap (λ p. is_taken p c.args.name.now) (sym c.of-plan.ensures.plan) ∙ sym c.is_taken.ensures ∙ c.if-is_taken.false) member c.of-neighbours.ensures c.in_ok-location.ensures refl c.in_ok-part.ensures.built (rw q c.in_err-taken.ensures.refused))

pub returns-in_err-keyword-clause-refused : goal.returns-in_err-keyword-clause-refused
returns-in_err-keyword-clause-refused g c member =
    exit _ _ _ c.from_residual-in_err-keyword.ensures.1 (read_memory (layer g.L.Leaf.Leaf g.M.Engine.RegexEngine) g.N.BuiltNode.answers (members_view c.args.parent.now.entries) c.args.ctx.now.place c.args.name.now (view c.args.value.now) c.args.ctx.now.meter.now
    (ap (λ p. is_taken p c.args.name.now) (sym c.of-plan.ensures.plan) ∙ sym c.is_taken.ensures ∙ c.if-is_taken.false) member c.of-neighbours.ensures c.in_ok-location.ensures refl c.in_ok-part.ensures.built c.in_ok-taken.ensures.built)

pub returns-clause-built : goal.returns-clause-built
returns-clause-built g c member =
    member_built (layer g.L.Leaf.Leaf g.M.Engine.RegexEngine) g.N.BuiltNode.answers (members_view c.args.parent.now.entries) c.args.ctx.now.place c.args.name.now (view c.args.value.now) c.args.ctx.now.meter.now
    (ap (λ p. is_taken p c.args.name.now) (sym c.of-plan.ensures.plan) ∙ sym c.is_taken.ensures ∙ c.if-is_taken.false) member c.of-neighbours.ensures c.in_ok-location.ensures refl c.in_ok-part.ensures.built c.in_ok-taken.ensures.built c.of-plan.ensures.distinct c.of-plan.ensures.plan (c.in_ok-keyword.ensures (layer g.L.Leaf.Leaf g.M.Engine.RegexEngine))
