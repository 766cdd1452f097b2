use Rattle.std.proofs.Common.{◌<◌, length, sym, ◌∙◌, arith}
use Rattle.olk_tree.proofs.Heads.{head_at_place, unlike_none}
use Rattle.olk_tree.proofs.names.find_at.Goals as goal

pub returns-then-place-names : goal.returns-then-place-names
returns-then-place-names c =
    unlike_none c.args.names.now c.requires.ascend c.args.name.now c.requires.head c.requires.first (λ l. absurd (omega (arith, l)))

pub returns-then-names-place : goal.returns-then-names-place
returns-then-names-place c =
    unlike_none c.args.names.now c.requires.ascend c.args.name.now c.requires.head c.requires.first
    (λ l e. c.if-names-place.true (head_at_place c.args.names.now c.args.place c.index-names-place.result l ∙ e))

pub stands_with_head-requires-clause-head : goal.stands_with_head-requires-clause-head
stands_with_head-requires-clause-head c =
    let inside : c.args.place < length c.args.names.now = omega arith in
    sym (head_at_place c.args.names.now c.args.place c.index-names-place.result inside) ∙ c.if-names-place.false ∙ c.requires.head
