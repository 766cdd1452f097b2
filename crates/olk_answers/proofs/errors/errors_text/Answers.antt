use Rattle.std.proofs.Common.{map, ap, ◌∙◌, subst}
use Rattle.std.proofs.lemmas.Result.{IfOk-weaker}
use Rattle.std.proofs.lemmas.List.Sorted.{IsPermutation-map}
use Rattle.std.specs.List.Sorted.{IsPermutation}
use Rattle.olk_answers.specs.Texts.{json_text}
use Rattle.olk_answers.specs.Told.{shown, errors_data}
use Rattle.olk_answers.proofs.ToldLemmas.{answer_is_plain, shown_ascend, is_empty-length}
use Rattle.olk_answers.proofs.errors.errors_text.Goals as goal

pub compact_text-requires : goal.compact_text-requires
compact_text-requires c = rw c.in_ok-value.ensures (answer_is_plain c.is_empty.result (map shown c.deref.result.now))

pub returns : goal.returns
returns c =
    let sorted = c.sort_unstable.new.self.items in
    let valid = c.is_empty.ensures ∙ is_empty-length c.args.errors.now in
    let is = c.in_ok-value.ensures ∙ ap (λ ts. errors_data c.is_empty.result (map shown ts)) c.deref.ensures.value ∙ ap (λ b. errors_data b (map shown sorted)) valid in
    IfOk-weaker c.compact_text.result _ _ (λ answer e none. record {
      sorted = map shown sorted;
      same = subst (λ ts. IsPermutation ts (map shown sorted)) (c.in_ok-told.ensures none) (IsPermutation-map shown _ _ c.sort_unstable.ensures.permutation);
      ascends = shown_ascend sorted c.sort_unstable.ensures.sorted;
      is = e ∙ ap json_text is;
    }) c.compact_text.ensures
