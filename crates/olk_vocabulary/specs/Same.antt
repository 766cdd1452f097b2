-- Equality of JSON values (Core 4.2.2): numbers by value, and members by their names, which stand in byte order.
use Rattle.std.specs.Prelude.{Bool, true, false, not, cond, ◌&&◌, bytes_eq}
use Rattle.serde_json.specs.Data.{Num, Data, null, boolean, number, string, array, object, Items, no_items, item, Members, no_members, member}
use Rattle.olk_spec.specs.Names.{Text}
use Rattle.olk_numbers.specs.Numbers.{is_same_number}

abbrev pub is_bool : Bool → Data → Bool
is_bool b (boolean c) = cond b c (not c)
is_bool b v = false

abbrev pub is_number : Num → Data → Bool
is_number m (number n) = is_same_number m n
is_number m v = false

abbrev pub is_text : Text → Data → Bool
is_text s (string t) = bytes_eq s t
is_text s v = false

abbrev pub is_null : Data → Bool
is_null null = true
is_null v = false

abbrev mutual
  pub same_value : Data → Data → Bool
  same_value null v = is_null v
  same_value (boolean b) v = is_bool b v
  same_value (number n) v = is_number n v
  same_value (string s) v = is_text s v
  same_value (array ds) (array es) = same_items ds es
  same_value (object ms) (object ns) = same_members ms ns
  same_value x v = false

  pub same_items : Items → Items → Bool
  same_items no_items no_items = true
  same_items (item d ds) (item e es) = same_value d e && same_items ds es
  same_items ds es = false

  pub same_members : Members → Members → Bool
  same_members no_members no_members = true
  same_members (member k d ms) (member l e ns) = bytes_eq k l && (same_value d e && same_members ms ns)
  same_members ms ns = false
