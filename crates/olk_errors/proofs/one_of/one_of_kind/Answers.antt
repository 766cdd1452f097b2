use Rattle.olk_errors.proofs.OneOf.{kind_of_none, kind_of_several}
use Rattle.olk_check.proofs.Asked.{answer_first, answer_then}
use Rattle.olk_errors.proofs.one_of.one_of_kind.Goals as goal

pub returns-in_ok-context-in-Zero-clause-kind : goal.returns-in_ok-context-in-Zero-clause-kind
returns-in_ok-context-in-Zero-clause-kind g c u so = let asked = c.accepting.ensures.asks.only in let found = c.contexts.ensures.context in
    kind_of_none c.in_ok-context-in-Zero.context _ (c.in_ok-context-in-Zero.ensures.contexts u (answer_then asked found so)) (c.in-Zero.ensures.count u (answer_first asked found so))

pub returns-in_ok-context-in-Several-clause-kind : goal.returns-in_ok-context-in-Several-clause-kind
returns-in_ok-context-in-Several-clause-kind g c u so = let asked = c.accepting.ensures.asks.only in let found = c.contexts-in-Several.ensures.context in
    kind_of_several c.in_ok-context-in-Several.context _ (c.in_ok-context-in-Several.ensures.contexts u (answer_then asked found so)) (c.in-Several.ensures.count u (answer_first asked found so))
