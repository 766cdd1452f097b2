-- What the document's keywords in a schema object know of their neighbours.
use Rattle.std.specs.Prelude.{ℕ, List, [], ◌∷◌, length, codes, option_to_list}
use Rattle.std.specs.List.{flat_map}
use Rattle.serde_json.specs.Data.{Members}
use Rattle.olk_spec.specs.Names.{Name, lookup_name}
use Rattle.olk_spec.specs.Malformed.{items_of_array}
use Rattle.olk_spec.specs.Schemas.{listed}
use Rattle.olk_document_spec.specs.Applied.{naturals}

-- the first of these, or 1
abbrev pub first_or_one : List ℕ → ℕ
first_or_one [] = 1
first_or_one (n ∷ ns) = n

module _ (ms : Members) where
  -- how many schemas `prefixItems` has
  abbrev pub skipped : ℕ
  skipped = length (flat_map items_of_array (option_to_list (lookup_name (codes "prefixItems") (listed ms))))

  -- the whole number at the name, none or one
  abbrev pub bound_of : Name → List ℕ
  bound_of k = flat_map naturals (option_to_list (lookup_name k (listed ms)))

  -- how many items are wanted at least
  abbrev pub least_of : ℕ
  least_of = first_or_one (bound_of (codes "minContains"))
