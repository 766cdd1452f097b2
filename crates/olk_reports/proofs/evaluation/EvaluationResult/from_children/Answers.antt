use Rattle.std.proofs.Common.{◌≡◌, None, ap, ◌∙◌, sym, map}
use Rattle.std.specs.List.{list_all}
use Rattle.olk_spec.specs.Tree.{is_valid}
use Rattle.olk_reports.specs.Evaluations.{tree_of, shown, described_of}
use Rattle.olk_reports.proofs.Evaluations.{each_valid}
use Rattle.olk_reports.proofs.evaluation.EvaluationResult.from_children.Goals as goal

pub invariant_of-result : goal.invariant_of-result
invariant_of-result c valid =
    each_valid c.args.children.items ∙ sym (c.all_valid-valid.ensures ∙ ap (list_all (λ n. is_valid (tree_of n))) c.as_slice.ensures.value) ∙ valid

pub returns : goal.returns
returns c =
    let valid : c.all_valid-valid.result ≡ list_all is_valid (map tree_of c.args.children.items) = c.all_valid-valid.ensures ∙ ap (list_all (λ n. is_valid (tree_of n))) c.as_slice.ensures.value ∙ sym (each_valid c.args.children.items) in
    λ i. shown (valid i) None (map described_of (c.new.ensures.items i)) (map tree_of c.args.children.items)
