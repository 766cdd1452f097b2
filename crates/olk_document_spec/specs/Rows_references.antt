-- `$ref`.
use Rattle.std.specs.Prelude.{◌∷◌, []}
use Prim.Native.String.{String as Quoted}
use Rattle.olk_document_spec.specs.Answers.{Asks, Fails, Has_tree, Holds}

abbrev pub to_a_member : Quoted
to_a_member = "{\"properties\":{\"foo\":{\"type\":\"integer\"},\"bar\":{\"$ref\":\"#/properties/foo\"}}}"

abbrev pub to_an_item : Quoted
to_an_item = "{\"prefixItems\":[{\"type\":\"integer\"},{\"$ref\":\"#/prefixItems/0\"}]}"

abbrev pub with_escapes : Quoted
with_escapes = "{\"tilda~field\":{\"type\":\"integer\"},\"slash/field\":{\"type\":\"integer\"},\"properties\":{\"tilda\":{\"$ref\":\"#/tilda~0field\"},\"slash\":{\"$ref\":\"#/slash~1field\"}}}"

abbrev pub one_behind_another : Quoted
one_behind_another = "{\"$defs\":{\"a\":{\"type\":\"integer\"},\"b\":{\"$ref\":\"#/$defs/a\"},\"c\":{\"$ref\":\"#/$defs/b\"}},\"$ref\":\"#/$defs/c\"}"

abbrev pub beside_a_keyword : Quoted
beside_a_keyword = "{\"$defs\":{\"reffed\":{\"type\":\"string\"}},\"properties\":{\"foo\":{\"$ref\":\"#/$defs/reffed\",\"maxLength\":2}}}"

abbrev pub as_many_as_may_be : Quoted
as_many_as_may_be = "{\"$ref\":\"#/$defs/1\",\"$defs\":{\"1\":{\"$ref\":\"#/$defs/2\"},\"2\":{\"$ref\":\"#/$defs/3\"},\"3\":{\"$ref\":\"#/$defs/4\"},\"4\":{\"$ref\":\"#/$defs/5\"},\"5\":{\"$ref\":\"#/$defs/6\"},\"6\":{\"$ref\":\"#/$defs/7\"},\"7\":{\"$ref\":\"#/$defs/8\"},\"8\":{\"$ref\":\"#/$defs/9\"},\"9\":{\"$ref\":\"#/$defs/10\"},\"10\":{\"$ref\":\"#/$defs/11\"},\"11\":{\"$ref\":\"#/$defs/12\"},\"12\":{\"$ref\":\"#/$defs/13\"},\"13\":{\"$ref\":\"#/$defs/14\"},\"14\":{\"$ref\":\"#/$defs/15\"},\"15\":{\"$ref\":\"#/$defs/16\"},\"16\":false}}"

abbrev pub a_member_of_that_name : Quoted
a_member_of_that_name = "{\"properties\":{\"$ref\":{\"type\":\"string\"}}}"

abbrev pub of_each_item : Quoted
of_each_item = "{\"properties\":{\"tags\":{\"items\":{\"$ref\":\"#/$defs/t\"}}},\"$defs\":{\"t\":{\"type\":\"string\"}}}"

pub record Rows_references : Type 0 where
  pub what_is_referred_to_is_right : Holds to_a_member "{\"bar\":3}"
  pub what_is_referred_to_is_wrong : Fails to_a_member "{\"bar\":true}" ("true is not of type \"integer\" @ /bar, /properties/foo/type" ∷ [])
  pub both_items_are_right : Holds to_an_item "[1,2]"
  pub the_item_that_refers_is_wrong : Fails to_an_item "[1,\"foo\"]" ("\"foo\" is not of type \"integer\" @ /1, /prefixItems/0/type" ∷ [])
  pub a_slash_is_escaped : Fails with_escapes "{\"slash\":\"aoeu\"}" ("\"aoeu\" is not of type \"integer\" @ /slash, /slash~1field/type" ∷ [])
  pub a_tilda_is_escaped : Fails with_escapes "{\"tilda\":\"aoeu\"}" ("\"aoeu\" is not of type \"integer\" @ /tilda, /tilda~0field/type" ∷ [])
  pub a_slash_names_an_integer : Holds with_escapes "{\"slash\":123}"
  pub a_tilda_names_an_integer : Holds with_escapes "{\"tilda\":123}"
  pub behind_two_others_it_is_right : Holds one_behind_another "5"
  pub behind_two_others_it_is_wrong : Fails one_behind_another "\"a\"" ("\"a\" is not of type \"integer\" @ \"\", /$defs/a/type" ∷ [])
  pub both_hold : Holds beside_a_keyword "{\"foo\":\"ab\"}"
  pub the_keyword_beside_it_is_asked : Fails beside_a_keyword "{\"foo\":\"abc\"}" ("\"abc\" is longer than 2 characters @ /foo, /properties/foo/maxLength" ∷ [])
  pub it_is_asked_beside_a_keyword : Fails beside_a_keyword "{\"foo\":5}" ("5 is not of type \"string\" @ /foo, /$defs/reffed/type" ∷ [])
  pub behind_as_many_as_may_be_it_is_wrong : Fails as_many_as_may_be "1" ("False schema does not allow 1 @ \"\", /$defs/16" ∷ [])
  pub a_tilde_alone_names_no_place : Holds "{\"$ref\":\"#/a~b\",\"a~b\":false}" "1"
  pub a_tilde_at_the_end_names_no_place : Holds "{\"$ref\":\"#/a~\",\"a~\":false}" "1"
  pub a_position_has_no_zero_before_it : Holds "{\"$ref\":\"#/prefixItems/00\",\"prefixItems\":[false]}" "1"
  pub the_empty_name : Fails "{\"$ref\":\"#/\",\"\":false}" "1" ("False schema does not allow 1 @ \"\", /" ∷ [])
  pub a_percent_sign_names_no_place : Holds "{\"$ref\":\"#/a%b\",\"a%b\":false}" "1"
  pub a_member_of_that_name_is_right : Holds a_member_of_that_name "{\"$ref\":\"a\"}"
  pub a_member_of_that_name_is_wrong : Fails a_member_of_that_name "{\"$ref\":2}" ("2 is not of type \"string\" @ /$ref, /properties/$ref/type" ∷ [])
  pub to_true : Holds "{\"$ref\":\"#/$defs/bool\",\"$defs\":{\"bool\":true}}" "\"foo\""
  pub to_false : Fails "{\"$ref\":\"#/$defs/bool\",\"$defs\":{\"bool\":false}}" "\"foo\"" ("False schema does not allow \"foo\" @ \"\", /$defs/bool" ∷ [])
  pub an_item_is_told_at_the_place_that_is_named : Fails of_each_item "{\"tags\":[\"a\",5]}" ("5 is not of type \"string\" @ /tags/1, /$defs/t/type" ∷ [])
  pub the_tree_of_the_place_that_is_named : Has_tree "{\"$ref\":\"#/$defs/a\",\"$defs\":{\"a\":{\"type\":\"string\"}}}" "5" "\"\" @ \"\" invalid(/$ref @ \"\" invalid(/$defs/a @ \"\" invalid(/$defs/a/type @ \"\" invalid error type: 5 is not of type \"string\")))"
  pub what_is_named_asks : Asks "{\"$ref\":\"#/$defs/a\",\"$defs\":{\"a\":{\"patternProperties\":{\"a\":{}}}}}" "{\"a\":1,\"b\":1}" 2
