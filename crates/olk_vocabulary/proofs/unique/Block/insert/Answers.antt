use Rattle.std.proofs.Common.{sym, ap, subst, ◌∙◌}
use Rattle.olk_vocabulary.specs.Blocks.{IsInOrder, is_held}
use Rattle.olk_vocabulary.proofs.Blocks.{still_in_order, held_with}
use Rattle.olk_vocabulary.proofs.unique.Block.insert.Goals as goal

pub invariant_of-self : goal.invariant_of-self
invariant_of-self c =
    let place = rw c.in-Some.is at c.place_for.ensures.place in
    record { ordered = subst IsInOrder (sym c.insert.ensures.items) (still_in_order c.args.self.now.slots.items c.in-Some.at c.args.value c.args.self.now.ordered place) }

pub returns-in-Some-clause-held : goal.returns-in-Some-clause-held
returns-in-Some-clause-held c = λ _ v. ap (λ l. is_held l v) c.insert.ensures.items ∙ held_with c.args.self.now.slots.items c.in-Some.at c.args.value v
