-- Blocks of values that are kept in their order.
use Rattle.std.specs.Prelude.{Bool, false, ℕ, ◌<◌, ◌≤◌, ◌≡◌, List, Option, Result, MatchResult, length}
use Rattle.std.specs.List.{list_any, AllWithin, HoldsAt}
use Rattle.std.specs.List.Sorted.{IsNonDecreasingBy}
use Rattle.std.specs.Option.{option_map_or}
use Rattle.std.specs.Ordering.{ordering_index}
use Rattle.std.specs.Borrow.{Bor}
use Rattle.std.specs.declared.cmp.Ordering.{Ordering}
use Rattle.std.specs.declared.cmp.Ordering.TheVariants.{Less, Equal, Greater}
use Rattle.serde_json.specs.Data.{Data}
use Rattle.serde_json.specs.View.{view}
use Rattle.serde_json.specs.declared.value.Value.{Value}
use Rattle.olk_vocabulary.specs.Order.{value_cmp}
use Rattle.olk_vocabulary.specs.Same.{same_value}

-- whether one of them is the same
abbrev pub has_same : List Data → Data → Bool
has_same ds v = list_any (λ d. same_value d v) ds

-- whether one of the first is the same as one of the second
abbrev pub meet : List Data → List Data → Bool
meet ds es = list_any (λ e. has_same ds e) es

-- a place of a block against a value, before which an empty one stands
abbrev pub slot_cmp : Option (Bor Value) → Data → Ordering
slot_cmp o v = option_map_or (λ x. value_cmp (view x.now) v) o Less

abbrev pub slot_same : Option (Bor Value) → Data → Bool
slot_same o v = option_map_or (λ x. same_value (view x.now) v) o false

abbrev pub is_held : List (Option (Bor Value)) → Data → Bool
is_held slots v = list_any (λ o. slot_same o v) slots

-- in the order of values: the answers of a comparison with any value rise
abbrev pub IsInOrder : List (Option (Bor Value)) → Type 0
IsInOrder slots = (v : Data) → IsNonDecreasingBy (λ o. ordering_index (slot_cmp o v)) slots

-- all before it are less than the value, and all from it on are greater
abbrev pub IsPlaceFor : Data → List (Option (Bor Value)) → ℕ → Type 0
IsPlaceFor v slots i = (i ≤ length slots) × AllWithin (λ o. slot_cmp o v ≡ Less) slots 0 i × AllWithin (λ o. slot_cmp o v ≡ Greater) slots i (length slots)

-- a place that is level with the value, or else where it is to be put
abbrev pub IsFound : Data → List (Option (Bor Value)) → Result ℕ ℕ → Type 0
IsFound v slots r = MatchResult r (λ i. (i < length slots) × HoldsAt (λ o. slot_cmp o v ≡ Equal) slots i) (λ i. IsPlaceFor v slots i)
