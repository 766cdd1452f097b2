-- The candidates of `enum` (Validation, 6.1.2), kept by their kinds.
use Rattle.std.specs.Prelude.{Bool, List}
use Rattle.std.specs.List.{list_any}
use Rattle.std.specs.BTreeSet.{contains_by, contains_text}
use Rattle.std.specs.Float.{Float}
use Rattle.std.specs.Ordering.{nan_last_cmp}
use Rattle.serde_json.specs.Data.{Data, number, string}
use Rattle.serde_json.specs.View.{items_view}
use Rattle.serde_json.specs.declared.value.Value.{Value}
use Rattle.olk_spec.specs.Malformed.{items_list}
use Rattle.olk_numbers.specs.Numbers.{num_of, exact}
use Rattle.olk_vocabulary.specs.Same.{same_value}
use Rattle.olk_vocabulary.specs.declared.ranked.RankedNumber.{RankedNumber}
use Rattle.olk_vocabulary.specs.declared.candidates.Kept.{Kept}

abbrev pub rank : RankedNumber → Float
rank m = exact (num_of m.number)

abbrev pub is_among : List Value → Data → Bool
is_among vs v = list_any (λ d. same_value d v) (items_list (items_view vs))

abbrev pub is_kept : Kept → Data → Bool
is_kept k (number n) = contains_by (λ m. nan_last_cmp (exact n) (rank m)) k.numbers
is_kept k (string s) = contains_text k.texts s
is_kept k v = is_among k.others.items v
