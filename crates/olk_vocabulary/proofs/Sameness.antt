-- Two lists of values, item by item.
use Rattle.std.proofs.Common.{◌≡◌, ◌≢◌, ◌≤◌, ◌<◌, ℕ, suc, List, [], ◌∷◌, true, false, ◌&&◌, length, drop, get_or, drop-cons, refl, sym, ap, ◌∙◌}
use Rattle.std.proofs.lemmas.List.{drop_all}
use Rattle.std.proofs.Math.Bool.{and-false}
use Rattle.serde_json.specs.View.{view, items_view}
use Rattle.serde_json.specs.declared.value.Value.{Value}
use Rattle.olk_vocabulary.specs.Same.{same_value, same_items}

pub at_item : (xs : List Value) (i : ℕ) (x : Value) → i < length xs → x ≡ get_or xs i x → drop i xs ≡ x ∷ drop (suc i) xs
at_item xs i x p e = drop-cons xs i x p ∙ ap (λ y. y ∷ drop (suc i) xs) (sym e)

pub items_step : (xs ys : List Value) (i : ℕ) (x y : Value) → i < length xs → i < length ys → x ≡ get_or xs i x → y ≡ get_or ys i y
    → same_items (items_view (drop i xs)) (items_view (drop i ys)) ≡ (same_value (view x) (view y) && same_items (items_view (drop (suc i) xs)) (items_view (drop (suc i) ys)))
items_step xs ys i x y p q e f = λ j. same_items (items_view (at_item xs i x p e j)) (items_view (at_item ys i y q f j))

pub items_end : (xs ys : List Value) (i : ℕ) → length xs ≤ i → length ys ≤ i → same_items (items_view (drop i xs)) (items_view (drop i ys)) ≡ true
items_end xs ys i p q = λ j. same_items (items_view (drop_all i xs p j)) (items_view (drop_all i ys q j))

pub lengths_differ : (xs ys : List Value) → length xs ≢ length ys → same_items (items_view xs) (items_view ys) ≡ false
lengths_differ [] [] h = absurd (h refl)
lengths_differ (x ∷ xs) (y ∷ ys) h =
    ap (λ b. same_value (view x) (view y) && b) (lengths_differ xs ys (λ e. h (ap (λ n. suc n) e))) ∙ and-false (same_value (view x) (view y))
lengths_differ _ _ h = refl

pub ruleset item_rules = (items_step, items_end, lengths_differ)
