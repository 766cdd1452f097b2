use Rattle.std.proofs.Common.{[], ◌∷◌, ◌++◌, cond, ap, sym, ◌∙◌}
use Rattle.std.proofs.lemmas.List.{append-nil, map-append}
use Rattle.olk_evaluate.specs.Additional.{names_of}
use Rattle.olk_evaluate.proofs.additional_members.push_if.Goals as goal

pub returns-in_ok-push : goal.returns-in_ok-push
returns-in_ok-push c = ap names_of c.in_ok-push.ensures.items ∙ map-append (λ n. n.now) c.args.names.now.items (c.args.name ∷ [])
    ∙ ap (λ b. names_of c.args.names.now.items ++ cond b (c.args.name.now ∷ []) []) (sym c.if-is_shown.true)

pub returns-else-is_shown : goal.returns-else-is_shown
returns-else-is_shown c = sym (append-nil (names_of c.args.names.now.items))
    ∙ ap (λ b. names_of c.args.names.now.items ++ cond b (c.args.name.now ∷ []) []) (sym c.if-is_shown.false)
