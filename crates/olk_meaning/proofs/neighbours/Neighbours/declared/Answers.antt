use Rattle.std.proofs.Common.{sym, ◌∙◌, ap, cond, []}
use Rattle.serde_json.specs.View.{members_view}
use Rattle.olk_meaning.specs.AdditionalProperties.{declared_beside}
use Rattle.olk_meaning.proofs.neighbours.Neighbours.declared.Goals as goal

pub returns-then-is_restricted : goal.returns-then-is_restricted
returns-then-is_restricted c =
    c.declared.ensures ∙ ap (λ b. cond b (declared_beside (members_view c.args.self.members.now.entries)) []) (sym c.if-is_restricted.true ∙ c.is_restricted.ensures)

pub returns-else-is_restricted : goal.returns-else-is_restricted
returns-else-is_restricted c = ap (λ b. cond b (declared_beside (members_view c.args.self.members.now.entries)) []) (sym c.if-is_restricted.false ∙ c.is_restricted.ensures)
