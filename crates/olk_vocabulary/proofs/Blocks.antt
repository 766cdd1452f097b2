-- What stands in a block of values in their order.
use Rattle.std.proofs.Common.{◌≡◌, ◌<◌, ◌≤◌, ℕ, suc, List, [], ◌∷◌, Bool, true, false, not, ◌||◌, Ordering, Less, Equal, Greater, Option, Some, None, Result, Ok, Err, Bor, length, get_or, refl, sym, ap, ◌∙◌, inl, inr, arith, true≢false}
use Rattle.std.specs.List.{list_any, HoldsAt, insert}
use Rattle.std.specs.List.Sorted.{IsBinarySearchResult, IsSearchInRange}
use Rattle.std.specs.Ordering.{ordering_reverse, ordering_index, is_eq, is_lt, is_gt}
use Rattle.std.proofs.lemmas.Bool.{cases_lt}
use Rattle.std.proofs.lemmas.Cmp.{alike_right}
use Rattle.std.proofs.lemmas.List.Folds.{list_any_at}
use Rattle.std.proofs.lemmas.List.Sorted.{IsNonDecreasingBy-insert, IsPermutation-insert, list_any-IsPermutation}
use Rattle.std.proofs.Math.Bool.{or_comm}
use Rattle.serde_json.specs.Data.{Data}
use Rattle.serde_json.specs.View.{view}
use Rattle.serde_json.specs.declared.value.Value.{Value}
use Rattle.olk_vocabulary.specs.Order.{value_cmp}
use Rattle.olk_vocabulary.specs.Same.{same_value}
use Rattle.olk_vocabulary.specs.Blocks.{slot_cmp, slot_same, is_held, IsInOrder, IsPlaceFor, IsFound}
use Rattle.olk_vocabulary.proofs.Orders.{value_total, level_values}

-- ---- one more

at_most_greater : (o : Ordering) → ordering_index o ≤ 2
at_most_greater Less = omega arith
at_most_greater Equal = omega arith
at_most_greater Greater = omega arith

rises : (x y v : Data) → value_cmp x y ≡ Less → ordering_index (value_cmp x v) ≤ ordering_index (value_cmp y v)
rises x y v h = go (value_cmp y v) refl
  where
    go : (o : Ordering) → value_cmp y v ≡ o → ordering_index (value_cmp x v) ≤ ordering_index (value_cmp y v)
    go Less e = omega (arith, ap ordering_index e, ap ordering_index (value_total.trans x y v h e))
    go Equal e = omega (arith, ap ordering_index e, ap ordering_index (sym (alike_right value_total y v x e) ∙ h))
    go Greater e = omega (arith, ap ordering_index e, at_most_greater (value_cmp x v))

below_place : (o : Option (Bor Value)) (x v : Data) → slot_cmp o x ≡ Less → ordering_index (slot_cmp o v) ≤ ordering_index (value_cmp x v)
below_place None x v h = omega arith
below_place (Some y) x v h = rises (view y.now) x v h

above_place : (o : Option (Bor Value)) (x v : Data) → slot_cmp o x ≡ Greater → ordering_index (value_cmp x v) ≤ ordering_index (slot_cmp o v)
above_place None x v h = absurd (true≢false (ap is_lt h))
above_place (Some y) x v h = rises x (view y.now) v (value_total.antisymm x (view y.now) ∙ ap ordering_reverse h)

pub still_in_order : (slots : List (Option (Bor Value))) (i : ℕ) (x : Bor Value) → IsInOrder slots → IsPlaceFor (view x.now) slots i → IsInOrder (insert slots i (Some x))
still_in_order slots i x up place v =
    IsNonDecreasingBy-insert (λ o. ordering_index (slot_cmp o v)) slots i (Some x) (up v) place.0
    (λ k d l. below_place (get_or slots k d) (view x.now) v (place.1 k d (omega arith) l))
    (λ k d a b. above_place (get_or slots k d) (view x.now) v (place.2 k d a b))

pub held_with : (slots : List (Option (Bor Value))) (i : ℕ) (x : Bor Value) (v : Data) → is_held (insert slots i (Some x)) v ≡ (is_held slots v || same_value (view x.now) v)
held_with slots i x v =
    sym (list_any-IsPermutation (λ o. slot_same o v) (Some x ∷ slots) (insert slots i (Some x)) (IsPermutation-insert slots i (Some x)))
    ∙ or_comm (same_value (view x.now) v) (is_held slots v)

-- ---- what a search has found

other_slot : (o : Option (Bor Value)) (v : Data) → (slot_cmp o v ≡ Equal → ⊥) → slot_same o v ≡ false
other_slot None v h = refl
other_slot (Some x) v h = go (same_value (view x.now) v) refl
  where
    go : (b : Bool) → same_value (view x.now) v ≡ b → b ≡ false
    go true e = absurd (h (level_values (view x.now) v e))
    go false e = refl

none_of : {X : Type 0} (p : X → Bool) (xs : List X) → ((k : ℕ) (d : X) → k < length xs → p (get_or xs k d) ≡ false) → list_any p xs ≡ false
none_of p [] h = refl
none_of p (x ∷ xs) h = ap (λ b. b || list_any p xs) (h 0 x (omega arith)) ∙ none_of p xs (λ k d l. h (suc k) d (omega (arith, l)))

pub not_held : (slots : List (Option (Bor Value))) (v : Data) (i : ℕ) → IsPlaceFor v slots i → is_held slots v ≡ false
not_held slots v i place =
    none_of (λ o. slot_same o v) slots (λ k d l. other_slot (get_or slots k d) v (elim (cases_lt k i) [
      | inl below ↦ λ e. true≢false (ap is_lt (sym (place.1 k d (omega arith) below) ∙ e))
      | inr above ↦ λ e. true≢false (ap is_gt (sym (place.2 k d above l) ∙ e))
    ]))

pub searched : (slots : List (Option (Bor Value))) (v : Data) (r : Result ℕ ℕ) → IsInOrder slots → IsSearchInRange r (length slots) → IsBinarySearchResult (λ o. slot_cmp o v) slots r → IsFound v slots r
searched slots v (Ok i) up b h = (b, h)
searched slots v (Err i) up b h = let parts = h (up v) in (b, parts.0, parts.1)

pub is_there : (slots : List (Option (Bor Value))) (i : ℕ) (o : Option (Bor Value)) (v : Data) (r : Ordering) → i < length slots → o ≡ get_or slots i o → is_eq r ≡ slot_same o v → is_eq r ≡ true → is_held slots v ≡ true
is_there slots i o v r l at same e = list_any_at (λ p. slot_same p v) slots i o l (ap (λ p. slot_same p v) (sym at) ∙ sym same ∙ e)

pub is_level : (slots : List (Option (Bor Value))) (i : ℕ) (o : Option (Bor Value)) (v : Data) (r : Ordering) → o ≡ get_or slots i o → r ≡ slot_cmp o v → HoldsAt (λ p. slot_cmp p v ≡ Equal) slots i → is_eq r ≡ true
is_level slots i o v r at order level = ap is_eq (order ∙ ap (λ p. slot_cmp p v) at ∙ level o)

pub old_one : (held new : Bool) → new ≡ not held → new ≡ false → held ≡ true
old_one true new e h = refl
old_one false new e h = absurd (true≢false (sym e ∙ h))

pub new_one : (held new : Bool) → new ≡ not held → new ≡ true → held ≡ false
new_one true new e h = absurd (true≢false (sym h ∙ e))
new_one false new e h = refl
