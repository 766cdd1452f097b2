-- An order of JSON values in which those that are the same are level (Core 4.2.2): by kinds, numbers by value, texts by bytes, lists item by item, and objects member by member.
use Rattle.std.specs.Prelude.{ℕ}
use Rattle.std.specs.Ordering.{nat_cmp, bool_cmp, nan_last_cmp, ordering_then}
use Rattle.std.specs.declared.cmp.Ordering.{Ordering}
use Rattle.std.specs.declared.cmp.Ordering.TheVariants.{Less, Equal, Greater}
use Rattle.std.specs.Cmp.Lexicographic.{slice_cmp}
use Rattle.serde_json.specs.Data.{Data, null, boolean, number, string, array, object, Items, no_items, item, Members, no_members, member}
use Rattle.olk_numbers.specs.Numbers.{exact}

abbrev pub kind_rank : Data → ℕ
kind_rank null = 0
kind_rank (boolean b) = 1
kind_rank (number n) = 2
kind_rank (string s) = 3
kind_rank (array ds) = 4
kind_rank (object ms) = 5

abbrev mutual
  pub value_cmp : Data → Data → Ordering
  value_cmp (boolean b) (boolean c) = bool_cmp b c
  value_cmp (number m) (number n) = nan_last_cmp (exact m) (exact n)
  value_cmp (string s) (string t) = slice_cmp nat_cmp s t
  value_cmp (array ds) (array es) = items_cmp ds es
  value_cmp (object ms) (object ns) = members_cmp ms ns
  value_cmp x y = nat_cmp (kind_rank x) (kind_rank y)

  pub items_cmp : Items → Items → Ordering
  items_cmp no_items no_items = Equal
  items_cmp no_items (item e es) = Less
  items_cmp (item d ds) no_items = Greater
  items_cmp (item d ds) (item e es) = ordering_then (value_cmp d e) (items_cmp ds es)

  pub members_cmp : Members → Members → Ordering
  members_cmp no_members no_members = Equal
  members_cmp no_members (member l e ns) = Less
  members_cmp (member k d ms) no_members = Greater
  members_cmp (member k d ms) (member l e ns) = ordering_then (slice_cmp nat_cmp k l) (ordering_then (value_cmp d e) (members_cmp ms ns))
