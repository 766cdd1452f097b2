use Rattle.std.proofs.Common.{map, subst}
use Rattle.std.specs.List.Sorted.{IsPermutation}
use Rattle.std.proofs.lemmas.List.Sorted.{All-permutation, IsPermutation-map}
use Rattle.olk_places.specs.Told.{shown, IsOf}
use Rattle.olk_places.proofs.InOrder.{shown_ascend}
use Rattle.olk_places.proofs.told.told_errors.Goals as goal

pub returns : goal.returns
returns c =
    let turned = c.sort_unstable.ensures.permutation in
    let sorted = c.sort_unstable.new.self.items in
    record {
      same = λ none. subst (λ ts. IsPermutation ts (map shown sorted)) (c.in_ok-told.ensures.same none) (IsPermutation-map shown _ _ turned);
      ascends = shown_ascend sorted c.sort_unstable.ensures.sorted;
      of = All-permutation (IsOf c.args.errors.now) _ _ turned c.in_ok-told.ensures.of;
    }
