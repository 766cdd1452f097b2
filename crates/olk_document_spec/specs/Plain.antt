-- Schemas in which no keyword of a document occurs.
use Rattle.std.specs.Prelude.{Bool, true, ◌&&◌}
use Rattle.serde_json.specs.Data.{Data, array, object, Items, no_items, item, Members, no_members, member}
use Rattle.olk_document_spec.specs.Keywords.{is_other}

-- no object at any depth, in a `const` too, has a member of such a name
abbrev mutual
  pub is_plain : Data → Bool
  is_plain (array ds) = are_plain ds
  is_plain (object ms) = are_members_plain ms
  is_plain d = true

  pub are_plain : Items → Bool
  are_plain no_items = true
  are_plain (item d ds) = is_plain d && are_plain ds

  pub are_members_plain : Members → Bool
  are_members_plain no_members = true
  are_members_plain (member n d ms) = is_other n && (is_plain d && are_members_plain ms)
