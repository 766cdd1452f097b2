-- What maps and lists of names hold.
use Rattle.std.specs.Prelude.{ℕ, List, [], ◌∷◌, map, String, string_bytes}
use Rattle.std.specs.declared.alloc.Global.{Global}
use Rattle.std.specs.List.{zip, enumerate_from}
use Rattle.olk_spec.specs.Names.{Name, Text}
use Rattle.olk_tree.specs.declared.big_map.BigMap.{BigMap}
use Rattle.olk_tree.specs.declared.map.SmallMap.{SmallMap}
use Rattle.olk_tree.specs.declared.properties_map.PropertiesMap.{PropertiesMap}
use Rattle.olk_tree.specs.declared.properties_map.PropertiesMap.TheVariants.{Small, Big}

abbrev pub named : {N : Type 0} → SmallMap N → List (Name × N)
named m = zip m.names m.nodes.items

abbrev pub named_of_many : {N : Type 0} → BigMap N → List (Name × N)
named_of_many m = zip m.names m.nodes.items

-- what a map of few names or of many has
abbrev pub mapped : {N : Type 0} → PropertiesMap N → List (Name × N)
mapped (Small m) = named m
mapped (Big m) = named_of_many m

-- the names, and what stands at them
abbrev pub keys_in : {N : Type 0} → List (Name × N) → List Name
keys_in es = map (λ e. e.0) es

abbrev pub nodes_in : {N : Type 0} → List (Name × N) → List N
nodes_in es = map (λ e. e.1) es

-- what stands at each name, with its place
abbrev pub placed_entries : {N : Type 0} → List (Name × N) → List (Name × (ℕ × N))
placed_entries es = zip (keys_in es) (enumerate_from 0 (nodes_in es))

-- the texts of owned names
abbrev pub texts_of : List (String Global) → List Text
texts_of = map string_bytes

abbrev pub two_texts : String Global → String Global → List Text
two_texts a b = string_bytes a ∷ string_bytes b ∷ []
