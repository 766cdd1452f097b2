use Rattle.std.proofs.Common.{ap, ◌∙◌, sym}
use Rattle.std.proofs.lemmas.Result.{IfOk-from_err, IfOk-weaker, IfErr-weaker}
use Rattle.serde_json.specs.View.{view, items_view}
use Rattle.olk_reports.proofs.Errors.{kind_of_unique_items}
use Rattle.olk_build.proofs.Spending.{exit, exit_with, tells_memory, tells_same}
use Rattle.olk_build.proofs.ReadEntries.{no_array_told, repeat_told, refused_as_texts}
use Rattle.olk_spec.specs.{Schemas.texts_in, Malformed.has_repeat}
use Rattle.olk_build.proofs.dependencies.names_of_entry.Goals as goal

pub returns-in_err-place : goal.returns-in_err-place
returns-in_err-place c = record {
  names = IfOk-from_err _ _ c.from_residual.ensures.0;
  right = IfOk-from_err _ _ c.from_residual.ensures.0;
  refused = exit _ _ _ c.from_residual.ensures.1 (tells_memory _);
}

pub returns-in_err-items : goal.returns-in_err-items
returns-in_err-items c = record {
  names = IfOk-from_err _ _ c.from_residual-in_err-items.ensures.0;
  right = IfOk-from_err _ _ c.from_residual-in_err-items.ensures.0;
  refused = exit_with _ _ _ c.from_residual-in_err-items.ensures.1
      (no_array_told c.args.key.now c.args.location.now (view c.args.value.now) _ (rw (← c.in_ok-place.ensures) c.in_err-items.ensures.refused));
}

pub returns-in_err-has_repeated_text : goal.returns-in_err-has_repeated_text
returns-in_err-has_repeated_text c = record {
  names = IfOk-from_err _ _ c.from_residual-in_err-has_repeated_text.ensures.0;
  right = IfOk-from_err _ _ c.from_residual-in_err-has_repeated_text.ensures.0;
  refused = exit _ _ _ c.from_residual-in_err-has_repeated_text.ensures.1 (tells_memory _);
}

pub returns-then-branch-clause-refused : goal.returns-then-branch-clause-refused
returns-then-branch-clause-refused c = repeat_told c.args.key.now c.args.location.now (view c.args.value.now) (items_view c.in_ok-items.items.now.items) c.refuse.result c.in_ok-items.ensures.array
    (ap (λ s. has_repeat (texts_in (items_view s))) (sym c.deref.ensures.value) ∙ sym c.in_ok-has_repeated_text.ensures ∙ c.if-branch.true)
    (rw (kind_of_unique_items, c.in_ok-place.ensures) at c.refuse.ensures)

pub returns : goal.returns
returns c =
    let once = refused_as_texts c.args.key.now c.args.location.now (view c.args.value.now) (items_view c.in_ok-items.items.now.items) c.in_ok-items.ensures.array
    (ap (λ s. has_repeat (texts_in (items_view s))) (sym c.deref.ensures.value) ∙ sym c.in_ok-has_repeated_text.ensures ∙ c.if-branch.false) in
    record {
      names = rw c.in_ok-items.ensures.array c.texts_of_items.ensures.names;
      right = IfOk-weaker c.texts_of_items.result _ _ (λ v h. once ∙ h) c.texts_of_items.ensures.texts;
      refused = IfErr-weaker c.texts_of_items.result _ _ (λ e t. tells_same (sym once) e t) c.texts_of_items.ensures.refused;
    }
