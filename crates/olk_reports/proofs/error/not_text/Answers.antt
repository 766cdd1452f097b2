use Rattle.std.proofs.Common.{◌≡◌, ◌||◌, ◌++◌, Bool, false, List, ℕ, Result, Ok, Err, IfOk, ap, ◌∙◌, codes}
use Rattle.std.proofs.lemmas.Bool.{or_parts}
use Rattle.serde_json.specs.View.{view}
use Rattle.serde_json.specs.Written.{compact_text}
use Rattle.olk_reports.proofs.error.not_text.Goals as goal

ends_with : {T E : Type 0} (r : Result T E) (bytes : T → List ℕ) (x y : Bool) (start middle last text : List ℕ) → IfOk r (λ s. x ≡ false → bytes s ≡ start ++ middle ++ last)
    → (y ≡ false → last ≡ text) → IfOk r (λ s. (x || y) ≡ false → bytes s ≡ start ++ middle ++ text)
ends_with (Ok s) bytes x y start middle last text is ends = λ none. let parts = or_parts x y none in is parts.0 ∙ ap (λ l. start ++ middle ++ l) (ends parts.1)
ends_with (Err e) bytes x y start middle last text is ends = tt

pub returns : goal.returns
returns c = ends_with _ _ _ _ (compact_text (view c.args.schema.now)) (codes " is not allowed for ") _ _ c.joined_text.ensures (λ none. c.as_str.ensures.value ∙ c.in_ok-value.ensures none)
