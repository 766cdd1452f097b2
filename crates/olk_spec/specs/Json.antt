-- Short words for JSON data.
use Rattle.std.specs.Prelude.{ℕ, List, [], ◌∷◌, codes, unwrap_or}
use Prim.Native.String.{String as Quoted}
use Rattle.serde_json.specs.Data.{unsigned, Data, null, number, string, array, object, Items, no_items, item, Members, no_members, member}
use Rattle.serde_json.specs.Read.{read}
use Rattle.olk_spec.specs.Names.{Text, Name}

-- the data that a JSON text stands for, as `serde_json` reads it
abbrev pub json_of : Text → Data
json_of t = unwrap_or (read t) null

abbrev pub json : Quoted → Data
json t = json_of (codes t)

abbrev pub members_from : List (Name × Data) → Members
members_from [] = no_members
members_from (m ∷ ms) = member m.0 m.1 (members_from ms)

-- an object of these members, which stand in byte order
abbrev pub obj : List (Name × Data) → Data
obj ms = object (members_from ms)

abbrev pub items_from : List Data → Items
items_from [] = no_items
items_from (d ∷ ds) = item d (items_from ds)

abbrev pub arr : List Data → Data
arr ds = array (items_from ds)

abbrev pub num : ℕ → Data
num n = number (unsigned n)

abbrev pub str : Text → Data
str t = string t
