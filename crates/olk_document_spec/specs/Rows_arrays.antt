-- `prefixItems` and `items`.
use Rattle.std.specs.Prelude.{◌∷◌, []}
use Prim.Native.String.{String as Quoted}
use Rattle.olk_document_spec.specs.Answers.{Asks, Fails, Has_tree, Holds}

abbrev pub integers : Quoted
integers = "{\"items\":{\"type\":\"integer\"}}"

abbrev pub two_schemas : Quoted
two_schemas = "{\"prefixItems\":[{\"type\":\"integer\"},{\"type\":\"string\"}]}"

abbrev pub integers_behind_one : Quoted
integers_behind_one = "{\"prefixItems\":[{}],\"items\":{\"type\":\"integer\"}}"

abbrev pub three_at_most : Quoted
three_at_most = "{\"prefixItems\":[{},{},{}],\"items\":false}"

pub record Rows_arrays : Type 0 where
  pub each_item_is_right : Holds integers "[1,2,3]"
  pub an_item_is_wrong : Fails integers "[1,\"x\"]" ("\"x\" is not of type \"integer\" @ /1, /items/type" ∷ [])
  pub an_object_has_no_items : Holds integers "{\"foo\":\"bar\"}"
  pub members_named_as_positions_are_no_items : Holds integers "{\"0\":\"invalid\",\"length\":1}"
  pub each_of_two_is_right : Holds two_schemas "[1,\"foo\"]"
  pub each_of_two_is_wrong : Fails two_schemas "[\"foo\",1]" ("\"foo\" is not of type \"integer\" @ /0, /prefixItems/0/type" ∷ "1 is not of type \"string\" @ /1, /prefixItems/1/type" ∷ [])
  pub an_item_that_is_absent_is_not_asked : Holds two_schemas "[1]"
  pub an_item_behind_the_schemas_is_not_asked : Holds two_schemas "[1,\"foo\",true]"
  pub no_item_is_asked : Holds two_schemas "[]"
  pub members_named_as_positions_are_no_items_of_two : Holds two_schemas "{\"0\":\"invalid\",\"1\":\"valid\",\"length\":2}"
  pub true_accepts_each : Holds "{\"items\":true}" "[1,\"foo\",true]"
  pub false_refuses_each : Fails "{\"items\":false}" "[1,\"foo\",true]" ("False schema does not allow \"foo\" @ /1, /items" ∷ "False schema does not allow 1 @ /0, /items" ∷ "False schema does not allow true @ /2, /items" ∷ [])
  pub false_accepts_no_items : Holds "{\"items\":false}" "[]"
  pub true_accepts_the_first : Holds "{\"prefixItems\":[true,false]}" "[1]"
  pub false_refuses_the_second : Fails "{\"prefixItems\":[true,false]}" "[1,\"foo\"]" ("False schema does not allow \"foo\" @ /1, /prefixItems/1" ∷ [])
  pub items_is_asked_behind_the_first : Holds integers_behind_one "[null,2,3,4]"
  pub an_item_behind_the_first_is_wrong : Fails integers_behind_one "[null,2,3,\"foo\"]" ("\"foo\" is not of type \"integer\" @ /3, /items/type" ∷ [])
  pub fewer_than_three : Holds three_at_most "[1,2]"
  pub three : Holds three_at_most "[1,2,3]"
  pub more_than_three : Fails three_at_most "[1,2,3,4]" ("False schema does not allow 4 @ /3, /items" ∷ [])
  pub items_of_items : Fails "{\"items\":{\"items\":{\"type\":\"integer\"}}}" "[[1],[\"x\"]]" ("\"x\" is not of type \"integer\" @ /1/0, /items/items/type" ∷ [])
  pub items_of_a_member : Fails "{\"properties\":{\"tags\":{\"items\":{\"type\":\"string\"}}}}" "{\"tags\":[\"a\",5]}" ("5 is not of type \"string\" @ /tags/1, /properties/tags/items/type" ∷ [])
  pub an_eleventh_item : Fails "{\"items\":{\"maximum\":0}}" "[0,0,0,0,0,0,0,0,0,0,1]" ("1 is greater than the maximum of 0 @ /10, /items/maximum" ∷ [])
  pub trees_of_items : Has_tree integers_behind_one "[null,2]" "\"\" @ \"\"(/items @ \"\"(/items @ /1(/items/type @ /1)))(/prefixItems @ \"\"(/prefixItems/0 @ /0))"
  pub a_wrong_item_is_shown : Has_tree integers "[\"x\"]" "\"\" @ \"\" invalid(/items @ \"\" invalid(/items @ /0 invalid(/items/type @ /0 invalid error type: \"x\" is not of type \"integer\")))"
  pub items_ask_for_each_item : Asks "{\"items\":{\"patternProperties\":{\"a\":{}}}}" "[{\"a\":1,\"b\":1},{\"a\":1}]" 3
