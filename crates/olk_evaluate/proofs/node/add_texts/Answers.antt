use mathlib.Core.Path.{subst₂}
use Rattle.std.proofs.Common.{arith, sym, ◌∙◌, map-id}
use Rattle.std.proofs.lemmas.Grind.{common_steps}
use Rattle.std.proofs.lemmas.Iterator.Adapters.{YieldsList-from_vec}
use Rattle.std.proofs.lemmas.Iterator.Consumers.{YieldsList-end}
use Rattle.olk_base.specs.Lawful.{texts_of}
use Rattle.std.specs.List.Sorted.{IsPermutation}
use Rattle.olk_evaluate.proofs.OwnErrors.{has_texts}
use Rattle.olk_evaluate.proofs.node.add_texts.Goals as goal

pub returns : goal.returns
returns g c =
    let items = c.in_ok-text-items.text-items in
    let all = YieldsList-end (YieldsList-from_vec items.items c.into_iter-text-iterator.ensures.into_iter_gives.0 (c.into_iter-text-iterator.ensures.into_iter_gives.1 ∙ items.ok.0)) c.loop-text.yielded c.loop-text.text-iterator c.loop-text.yielded_by c.next.result c.next.new.self c.in-None.is c.next.ensures.steps in
    has_texts (g.K.Leaf.keyword_of c.args.leaf.now) (subst₂ (λ v l. IsPermutation (g.K.Leaf.finds c.args.leaf.now v) (texts_of l)) c.node.ensures
    (sym (sym (map-id c.loop-text.yielded) ∙ all.0)) c.in_ok-text-items.ensures) c.loop-text.invariant

pub loop-text-preserved : goal.loop-text-preserved
loop-text-preserved g c = grind (arith, common_steps)
