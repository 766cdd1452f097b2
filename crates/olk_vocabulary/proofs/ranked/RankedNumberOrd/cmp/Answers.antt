use Rattle.std.proofs.Common.{Equal, refl, ap, sym, subst, ◌∙◌}
use Rattle.std.specs.Option.{IsSome, unwrap_or}
use Rattle.olk_vocabulary.specs.Candidates.{rank}
use Rattle.olk_numbers.proofs.Comparisons.{ranked}
use Rattle.olk_vocabulary.proofs.ranked.RankedNumberOrd.cmp.Goals as goal

pub unwrap-requires : goal.unwrap-requires
unwrap-requires c =
    let one = c.args.self.now in
    let other = c.args.other.now in
    subst IsSome (ranked (rank one) (rank other) one.known other.known ∙ sym c.compare.ensures) refl

pub returns : goal.returns
returns c =
    let one = c.args.self.now in
    let other = c.args.other.now in
    ap (λ o. unwrap_or o Equal) (sym c.unwrap.ensures ∙ c.compare.ensures ∙ sym (ranked (rank one) (rank other) one.known other.known))
