use Rattle.std.proofs.Common.{sym, ◌∙◌, ap, length}
use Rattle.std.specs.Prelude.{nat_eq}
use Rattle.olk_base.specs.Nodes.{data_of}
use Rattle.olk_spec.specs.Tree.{is_valid}
use Rattle.olk_errors.proofs.Appending.{appended_none}
use Rattle.object_logic.proofs.OneVerdict.{told_rightly, valid_anywhere}
use Rattle.object_logic.proofs.validate.verdicts_of.Goals as goal

pub returns-clause-one : goal.returns-clause-one
returns-clause-one g c =
    let accepts = (g.V.Means.means c.args.asked.now (data_of c.args.node)).accepts in
    let first = c.is_valid-is_valid.ensures.only.answer in
    let second = c.validate.ensures.context.answer ∙ first in
    let third = c.collect_errors.ensures.context.answer ∙ second in
    let all = c.collect_errors.new.errors.items in
    record {
      is_valid = c.is_valid-is_valid.ensures.verdict;
      validate = told_rightly c.validate.result c.in_ok-validate.validate _ c.in_ok-validate.ensures c.validate.ensures.ok c.validate.ensures.invalid ∙ ap accepts first;
      collect_errors = c.is_empty.ensures ∙ ap (λ n. nat_eq n 0) c.collect_errors.new.errors.ok.0 ∙ ap (λ l. nat_eq (length all) (length l)) (sym c.new-errors.ensures.items)
          ∙ appended_none c.in_ok-collect_errors.ensures.report
          ∙ g.met.V.Reports.agrees c.args.asked.now c.validate.new.ctx.answer (data_of c.args.node) _ ∙ ap accepts second;
      evaluate = c.valid.ensures ∙ ap is_valid c.new-shown.ensures ∙ valid_anywhere _ _ _ _ _ ∙ c.in_ok-outcome.ensures.verdict ∙ ap accepts third;
    }
