use Rattle.std.proofs.Common.{IfOk, ap, subst, sym, ◌∙◌}
use Rattle.serde_json.specs.View.{view}
use Rattle.serde_json.proofs.Views.{view-Array}
use Rattle.olk_vocabulary.specs.declared.keyword.Keyword.TheVariants as keyword
use Rattle.olk_vocabulary.specs.Leaves.{IsMade}
use Rattle.olk_vocabulary.proofs.maker.type_leaf.Goals as goal

pub returns-in-Array : goal.returns-in-Array
returns-in-Array c =
    let is = ap view c.in-Array.is ∙ view-Array c.in-Array.items in
    subst (λ d. IfOk c.types_leaf.result (IsMade keyword.Type d)) (sym is) c.types_leaf.ensures
