-- Names in order, as they are kept: each with its first bytes.
use Rattle.std.specs.Prelude.{ℕ, List, map, string_bytes}
use Rattle.olk_spec.specs.Names.{Name}
use Rattle.olk_tree.specs.declared.sorted_name.SortedName.{SortedName}

abbrev pub name_of : SortedName → Name
name_of n = string_bytes n.text

abbrev pub names_of : List SortedName → List Name
names_of ns = map name_of ns

abbrev pub heads_of : List SortedName → List ℕ
heads_of ns = map (λ n. n.head) ns
