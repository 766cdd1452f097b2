-- `uniqueItems` (JSON Schema 2020-12 Validation, 6.4.3).
use Rattle.std.specs.Prelude.{Bool, true, not, ◌&&◌, List, [], ◌∷◌, ◌++◌, codes}
use Rattle.std.specs.List.{list_any}
use Rattle.std.specs.Option.{option_map_or}
use Rattle.serde_json.specs.Data.{Data, boolean}
use Rattle.serde_json.specs.Find.{as_array}
use Rattle.olk_spec.specs.Names.{Text}
use Rattle.olk_spec.specs.Malformed.{items_list}
use Rattle.olk_spec.specs.Bench.{shown, unless}
use Rattle.olk_vocabulary.specs.Same.{same_value}

-- no two of them are the same: each differs from all behind it
abbrev pub are_unique : List Data → Bool
are_unique [] = true
are_unique (d ∷ ds) = not (list_any (λ e. same_value d e) ds) && are_unique ds

-- what is no list passes
abbrev pub has_unique_items : Data → Bool
has_unique_items v = option_map_or (λ ds. are_unique (items_list ds)) (as_array v) true

abbrev pub unique_text : Data → Text
unique_text v = shown v ++ codes " has non-unique elements"

abbrev pub unique_faults : Data → Data → List Text
unique_faults (boolean true) v = unless (has_unique_items v) (unique_text v)
unique_faults x v = []
