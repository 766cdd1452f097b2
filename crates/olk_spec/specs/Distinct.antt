-- Values in which no object has a name twice. A JSON object is a finite map from names to values (RFC 8259, 4), so this is what a value is.
use Rattle.std.specs.Prelude.{◌≡◌, ⊤, false, map}
use Rattle.serde_json.specs.Data.{Data, array, object, Items, no_items, item, Members, no_members, member}
use Rattle.olk_spec.specs.Schemas.{listed}
use Rattle.olk_spec.specs.Malformed.{has_repeat}

abbrev mutual
  pub DistinctNames : Data → Type 0
  DistinctNames (array ds) = DistinctInItems ds
  DistinctNames (object ms) = (has_repeat (map (λ m. m.0) (listed ms)) ≡ false) × DistinctInMembers ms
  DistinctNames d = ⊤

  pub DistinctInItems : Items → Type 0
  DistinctInItems no_items = ⊤
  DistinctInItems (item d ds) = DistinctNames d × DistinctInItems ds

  pub DistinctInMembers : Members → Type 0
  DistinctInMembers no_members = ⊤
  DistinctInMembers (member n d ms) = DistinctNames d × DistinctInMembers ms
