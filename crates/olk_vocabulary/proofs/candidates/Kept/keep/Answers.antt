use Rattle.std.proofs.Common.{◌≡◌, true, inl, inr, refl, ap, ◌∙◌, rules}
use Rattle.serde_json.specs.View.{view}
use Rattle.serde_json.specs.Data.{null, boolean}
use Rattle.serde_json.specs.declared.value.Value.{Null, Bool, the_lemmas}
use Rattle.serde_json.proofs.Views.{view-Array, view-Object}
use Rattle.olk_vocabulary.proofs.Kept.{is_other, other_kept}
use Rattle.olk_vocabulary.proofs.candidates.Kept.keep.Goals as goal

pub returns-in_ok-push-in-Null : goal.returns-in_ok-push-in-Null
returns-in_ok-push-in-Null c =
    let value = c.args.value.now in
    let copy = c.in_ok-clone-in-Null.field-0 in
    let same : view copy ≡ view value = search rules in
    let other : is_other (view value) ≡ true = elim c.in-Null.is [
      | inl is ↦
          let seen : view Null ≡ null = search (rules, the_lemmas) in
          ap (λ x. is_other (view x)) is ∙ ap is_other seen
      | inr (inl (truth, is)) ↦
          let seen : view (Bool truth) ≡ boolean truth = search (rules, the_lemmas) in
          ap (λ x. is_other (view x)) is ∙ ap is_other seen
      | inr (inr (inl (items, is))) ↦ ap (λ x. is_other (view x)) is ∙ ap is_other (view-Array items)
      | inr (inr (inr (members, is))) ↦ ap (λ x. is_other (view x)) is ∙ ap is_other (view-Object members)
    ] in
    let old = c.args.self.now in
    other_kept old (record { numbers = old.numbers; texts = old.texts; others = c.push.new.self }) value copy c.in_ok-push-in-Null.ensures.items same refl refl other
