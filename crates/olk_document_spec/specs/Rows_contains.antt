-- `contains`, `minContains` and `maxContains`.
use Rattle.std.specs.Prelude.{◌∷◌, []}
use Prim.Native.String.{String as Quoted}
use Rattle.olk_document_spec.specs.Answers.{Asks, Fails, Has_tree, Holds}

abbrev pub five_or_more : Quoted
five_or_more = "{\"contains\":{\"minimum\":5}}"

abbrev pub a_five : Quoted
a_five = "{\"contains\":{\"const\":5}}"

pub record Rows_contains : Type 0 where
  pub the_last_is_contained : Holds five_or_more "[3,4,5]"
  pub another_is_contained : Holds five_or_more "[3,4,6]"
  pub two_are_contained : Holds five_or_more "[3,4,5,6]"
  pub an_object_contains_what_it_likes : Holds five_or_more "{}"
  pub none_is_contained : Fails five_or_more "[2,3,4]" ("None of [2,3,4] are valid under the given schema @ \"\", /contains" ∷ [])
  pub no_items_contain_nothing : Fails five_or_more "[]" ("None of [] are valid under the given schema @ \"\", /contains" ∷ [])
  pub a_five_is_contained : Holds a_five "[3,4,5]"
  pub two_fives_are_contained : Holds a_five "[3,4,5,5]"
  pub no_five_is_contained : Fails a_five "[1,2,3,4]" ("None of [1,2,3,4] are valid under the given schema @ \"\", /contains" ∷ [])
  pub any_item_is_contained : Holds "{\"contains\":true}" "[\"foo\"]"
  pub no_items_contain_no_item : Fails "{\"contains\":true}" "[]" ("None of [] are valid under the given schema @ \"\", /contains" ∷ [])
  pub false_is_never_contained : Fails "{\"contains\":false}" "[\"foo\"]" ("None of [\"foo\"] are valid under the given schema @ \"\", /contains" ∷ [])
  pub of_a_fraction_no_digits_are_promised : Fails "{\"contains\":false}" "[1.5]" ("None of value are valid under the given schema @ \"\", /contains" ∷ [])
  pub what_is_not_contained_is_shown : Has_tree a_five "[1]" "\"\" @ \"\" invalid(/contains @ \"\" invalid error contains: None of [1] are valid under the given schema)"
  pub contains_asks_each_item : Asks "{\"contains\":{\"patternProperties\":{\"a\":{}}}}" "[{\"a\":1},{\"a\":1,\"b\":1}]" 3
