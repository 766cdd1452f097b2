use Rattle.std.proofs.Common.{cond, Some, None, ap, ◌∙◌, sym}
use Rattle.std.proofs.lemmas.Result.{IfOk-from_err}
use Rattle.serde_json.specs.View.{view}
use Rattle.olk_build.specs.Reading.{list_of}
use Rattle.olk_build.proofs.Shapes.{no_array, view_of_array}
use Rattle.olk_spec.specs.{Schemas.texts, Malformed.not_a_text}
use Rattle.olk_build.proofs.{Spending.exit_with, Read.no_text_missed}
use Rattle.olk_build.proofs.dependencies.list_of_entry.Goals as goal

pub returns-in_err-texts_of_items : goal.returns-in_err-texts_of_items
returns-in_err-texts_of_items c = record {
  list = IfOk-from_err _ _ c.from_residual.ensures.0;
  texts = IfOk-from_err _ _ c.from_residual.ensures.0;
  refused = exit_with _ _ _ c.from_residual.ensures.1 (rw (view_of_array c.args.value.now c.in-Array.items c.in-Array.is) c.in_err-texts_of_items.ensures.refused);
}

pub returns : goal.returns
returns c =
    let is = view_of_array c.args.value.now c.in-Array.items c.in-Array.is in
    record {
      list = ap Some c.in_ok-texts_of_items.ensures.names ∙ ap list_of (sym is);
      texts = ap (λ d. not_a_text d c.args.location.now) is ∙ c.in_ok-texts_of_items.ensures.texts;
      refused = tt;
    }

pub returns-in_default : goal.returns-in_default
returns-in_default c =
    let none = no_array c.args.value.now c.in_default.not-Array in
    record {
      list = ap (λ b. cond b (Some (texts (view c.args.value.now))) None) (sym none);
      texts = no_text_missed (view c.args.value.now) c.args.location.now none;
      refused = tt;
    }
