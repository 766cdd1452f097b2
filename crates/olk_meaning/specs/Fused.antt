-- Which names of `required` the validators of `properties` and `additionalProperties` fuse.
use Rattle.std.specs.Prelude.{Bool, true, false, cond, not, ◌&&◌, nat_lt, length, Option, Some, None, is_some, is_none, codes, bytes_eq}
use Rattle.serde_json.specs.Data.{Data, boolean, string, object, array, Members, no_items, item}
use Rattle.olk_spec.specs.Names.{Name, lookup_name}
use Rattle.olk_spec.specs.{Schemas.listed, declared.TheConstants.HASHMAP_THRESHOLD}

-- a value of `properties` that declares few names
abbrev pub declares_few : Option Data → Bool
declares_few (Some (object fs)) = nat_lt (length (listed fs)) HASHMAP_THRESHOLD
declares_few o = false

-- a value of `additionalProperties` that allows every other member, or none
abbrev pub allows_others : Option Data → Bool
allows_others None = true
allows_others (Some (boolean b)) = b
allows_others o = false

-- a value of `required` that lists two names, which differ
abbrev pub two_names : Option Data → Option (Name × Name)
two_names (Some (array (item (string a) (item (string b) no_items)))) = cond (bytes_eq a b) None (Some (a, b))
two_names o = None

-- the two names that `properties` fuses from `required` in a schema object with these members
abbrev pub fused_pair : Members → Option (Name × Name)
fused_pair ms = cond (declares_few (lookup_name (codes "properties") (listed ms)) && is_none (lookup_name (codes "patternProperties") (listed ms)) && allows_others (lookup_name (codes "additionalProperties") (listed ms))) (two_names (lookup_name (codes "required") (listed ms))) None

-- ---- the name of one

-- a value of `additionalProperties` that refuses every other member
abbrev pub refuses_others : Option Data → Bool
refuses_others (Some (boolean b)) = not b
refuses_others o = false

-- a value of `required` that lists one name
abbrev pub one_name : Option Data → Option Name
one_name (Some (array (item (string a) no_items))) = Some a
one_name o = None

-- the name that `additionalProperties` fuses from `required` in a schema object with these members
abbrev pub fused_one : Members → Option Name
fused_one ms = cond (is_some (lookup_name (codes "properties") (listed ms)) && is_none (lookup_name (codes "patternProperties") (listed ms)) && refuses_others (lookup_name (codes "additionalProperties") (listed ms))) (one_name (lookup_name (codes "required") (listed ms))) None
