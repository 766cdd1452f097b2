use Rattle.std.proofs.Common.{◌≡◌, ◌/◌, ◌%◌, ◌-◌, ◌*◌, ◌^◌, ◌<◌, ◌∷◌, bit_or, length, slice_set, sym, ap, subst, ◌∙◌, arith}
use Rattle.std.proofs.lemmas.Grind.{get_or_default_zero}
use Rattle.olk_tree.specs.Tables.{has_bit}
use Rattle.olk_tree.proofs.Bits.{with_bit, bit_is_set, others_stay, first_set, other_set}
use Rattle.olk_tree.proofs.pattern_table.PatternBits.set.Goals as goal

pub returns-then-index-lt-WORD_BITS-clause-set : goal.returns-then-index-lt-WORD_BITS-clause-set
returns-then-index-lt-WORD_BITS-clause-set c =
    let w = c.self.inside.first in
    let ws = c.self.inside.more.items in
    let i = c.args.index in
    ap (λ l. has_bit l i) (first_set w ws i c.if-index-lt-WORD_BITS.true) ∙ bit_is_set (w ∷ ws) i (subst (λ l. i / 64 < length l) (sym c.self.view_is) c.requires)

pub returns-then-index-lt-WORD_BITS-clause-others : goal.returns-then-index-lt-WORD_BITS-clause-others
returns-then-index-lt-WORD_BITS-clause-others c j apart =
    let w = c.self.inside.first in
    let ws = c.self.inside.more.items in
    let i = c.args.index in
    ap (λ l. has_bit l j) (first_set w ws i c.if-index-lt-WORD_BITS.true) ∙ others_stay (w ∷ ws) i (subst (λ l. i / 64 < length l) (sym c.self.view_is) c.requires) j apart
    ∙ ap (λ l. has_bit l j) c.self.view_is

-- what is written to the words behind the first
written : (c : goal.After-self-else-index-lt-WORD_BITS-1)
    → c.self.inside.first ∷ slice_set c.self.inside.more.items (c.args.index / 64 - 1) (bit_or c.index_mut.result.now (1 * 2 ^ (c.args.index % 64) % 2 ^ 64)) ≡ with_bit (c.self.inside.first ∷ c.self.inside.more.items) c.args.index
written c =
    let ws = c.self.inside.more.items in
    let k = c.args.index / 64 - 1 in
    let within = subst (λ l. c.args.index / 64 < length l) (sym c.self.view_is) c.requires in
    let inside : k < length ws = omega (arith, within, c.if-index-lt-WORD_BITS.false) in
    ap (λ x. c.self.inside.first ∷ slice_set ws k (bit_or x (1 * 2 ^ (c.args.index % 64) % 2 ^ 64))) (c.index_mut.ensures.value ∙ get_or_default_zero ws k c.index_mut.result.now inside)
    ∙ other_set c.self.inside.first ws c.args.index c.if-index-lt-WORD_BITS.false

pub returns-else-index-lt-WORD_BITS-clause-set : goal.returns-else-index-lt-WORD_BITS-clause-set
returns-else-index-lt-WORD_BITS-clause-set c =
    ap (λ l. has_bit l c.args.index) (written c)
    ∙ bit_is_set (c.self.inside.first ∷ c.self.inside.more.items) c.args.index (subst (λ l. c.args.index / 64 < length l) (sym c.self.view_is) c.requires)

pub returns-else-index-lt-WORD_BITS-clause-others : goal.returns-else-index-lt-WORD_BITS-clause-others
returns-else-index-lt-WORD_BITS-clause-others c j apart =
    ap (λ l. has_bit l j) (written c)
    ∙ others_stay (c.self.inside.first ∷ c.self.inside.more.items) c.args.index (subst (λ l. c.args.index / 64 < length l) (sym c.self.view_is) c.requires) j apart
    ∙ ap (λ l. has_bit l j) c.self.view_is
