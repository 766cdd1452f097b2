use Rattle.std.proofs.Common.{◌≡◌, ap, sym, ◌∙◌, rules}
use Rattle.serde_json.specs.Data.{number}
use Rattle.serde_json.specs.View.{view, number_view}
use Rattle.serde_json.specs.declared.value.Value.{Number, the_lemmas}
use Rattle.olk_vocabulary.specs.Same.{is_number}
use Rattle.olk_vocabulary.proofs.Orders.{number_same}
use Rattle.olk_vocabulary.proofs.order.compare_number.Goals as goal

pub returns-in-Number-clause-same : goal.returns-in-Number-clause-same
returns-in-Number-clause-same c =
    let m = number_view c.args.one.now in
    let n = number_view c.in-Number.number in
    let seen : view (Number c.in-Number.number) ≡ number n = search (rules, the_lemmas) in
    number_same c.of.result c.of-in-Number.result m n c.cmp.result c.cmp.ensures c.of.ensures c.of-in-Number.ensures ∙ ap (is_number m) (sym (ap view c.in-Number.is ∙ seen))
