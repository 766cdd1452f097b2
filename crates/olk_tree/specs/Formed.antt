-- Whether what validators hold has the form that is chosen for it. That the names of a map are distinct is an invariant of its type.
use Rattle.std.specs.Prelude.{◌==◌, nat_lt, Bool, true, false, not, ◌&&◌, ◌||◌, List, [], length, bytes_eq, Option}
use Rattle.std.specs.List.{list_all, enumerate_from}
use Rattle.std.specs.Option.{option_map_or}
use Rattle.std.specs.Cmp.Lexicographic.{pointwise}
use Rattle.olk_spec.specs.Names.{Name, is_empty}
use Rattle.olk_spec.specs.World.{Says, matched, unmatched, unfinished}
use Rattle.olk_spec.specs.declared.TheConstants.{HASHMAP_THRESHOLD}
use Rattle.olk_meaning.specs.Chosen.{Size, few, many}
use Rattle.olk_base.specs.Compiled.{pattern_answers}
use Rattle.olk_base.specs.declared.pattern.CompiledPattern.{CompiledPattern}
use Rattle.std.specs.declared.alloc.Global.{Global}
use Rattle.std.specs.declared.vec.Vec.{Vec}
use Rattle.olk_tree.specs.Maps.{keys_in, mapped}
use Rattle.olk_tree.specs.Tables.{Table, table_says}
use Rattle.olk_tree.specs.declared.properties_map.PropertiesMap.{PropertiesMap}
use Rattle.olk_tree.specs.declared.properties_map.PropertiesMap.TheVariants.{Small, Big}

-- there is another form for just one
abbrev pub is_one : {X : Type 0} → List X → Bool
is_one xs = length xs == 1

-- there are as many nodes as names
abbrev pub is_paired : {N : Type 0} → List Name → Vec N Global → Bool
is_paired ks xs = length ks == length xs.items

-- few names stand in a small map, and many in a big one
abbrev pub is_map_formed : {N : Type 0} → PropertiesMap N → Bool
is_map_formed (Small m) = nat_lt (length m.names) HASHMAP_THRESHOLD && is_paired m.names m.nodes
is_map_formed (Big m) = not (nat_lt (length m.names) HASHMAP_THRESHOLD) && is_paired m.names m.nodes

-- a small map is for few names, and a big one for many
abbrev pub size_of : {N : Type 0} → PropertiesMap N → Size
size_of (Small m) = few
size_of (Big m) = many

-- the names that are declared, if any are
abbrev pub names_beside : {N : Type 0} → Option (PropertiesMap N) → List Name
names_beside m = option_map_or (λ x. keys_in (mapped x)) m []

-- ---- the table of patterns

abbrev pub is_same_answer : Says → Says → Bool
is_same_answer matched matched = true
is_same_answer unmatched unmatched = true
is_same_answer unfinished unfinished = true
is_same_answer s t = false

module _ {R : Type 0} (answers : R → Name → Says) (names : List Name) (patterns : List (CompiledPattern R)) where
  -- at the place of each name it has what each pattern says of it
  abbrev pub has_answers : Table → Bool
  has_answers t = list_all (λ n. list_all (λ p. is_same_answer (table_says t n.0 p.0) (pattern_answers answers p.1 n.1)) (enumerate_from 0 patterns)) (enumerate_from 0 names)

  -- it has these names, and, where there are any, so many patterns
  abbrev pub is_table_formed : Table → Bool
  is_table_formed t = pointwise bytes_eq t.names names && (is_empty names || (t.patterns == length patterns)) && has_answers t
