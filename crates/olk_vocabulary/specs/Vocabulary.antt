-- The vocabulary as a leaf set: its keywords, and the assertions that it refuses.
use Rattle.std.specs.Prelude.{Bool, false, ◌||◌, is_some, List, [], ◌∷◌, codes}
use Rattle.std.specs.Option.{option_map_or}
use Rattle.serde_json.specs.Data.{Data}
use Rattle.olk_spec.specs.Names.{Text, Name, is_among}
use Rattle.olk_vocabulary.specs.Keywords.{keyword_named, takes, finds}

-- the standard's other assertions, but for those that the library refuses (Core 10.3.1; Validation 6.4.4, 6.4.5): no value fits them
abbrev pub unread_names : List Name
unread_names = codes "prefixItems" ∷ codes "items" ∷ codes "contains" ∷ codes "minContains" ∷ codes "maxContains" ∷ []

abbrev pub is_unread : Name → Bool
is_unread k = is_among k unread_names

abbrev pub vocabulary_reads : Name → Bool
vocabulary_reads k = is_some (keyword_named k) || is_unread k

abbrev pub vocabulary_fits : Name → Data → Bool
vocabulary_fits k x = option_map_or (λ w. takes w x) (keyword_named k) false

abbrev pub vocabulary_faults : Name → Data → Data → List Text
vocabulary_faults k x v = option_map_or (λ w. finds w x v) (keyword_named k) []
