-- The leaves of the bench.
use Rattle.std.specs.Prelude.{◌∷◌, []}
use Rattle.olk_spec.specs.World.{matched, unmatched}
use Rattle.olk_spec.specs.Answers.{Holds, Fails, Refuses, Is_refused}
use Rattle.olk_spec.specs.Forms.{None_promises_its_refusal, All_build, Says_of}

pub record Rows_bench : Type 0 where
  pub a_value_of_kind_null : Holds "{\"type\":\"null\"}" "null"
  pub a_value_of_kind_boolean : Holds "{\"type\":\"boolean\"}" "true"
  pub a_value_of_kind_integer : Holds "{\"type\":\"integer\"}" "-5"
  pub a_value_of_kind_number : Holds "{\"type\":\"number\"}" "-5"
  pub a_value_of_kind_string : Holds "{\"type\":\"string\"}" "\"a\""
  pub a_value_of_kind_array : Holds "{\"type\":\"array\"}" "[1]"
  pub a_value_of_kind_object : Holds "{\"type\":\"object\"}" "{}"
  pub a_value_of_kind_null_is_of_no_other : Holds "{\"not\":{\"anyOf\":[{\"type\":\"boolean\"},{\"type\":\"integer\"},{\"type\":\"number\"},{\"type\":\"string\"},{\"type\":\"array\"},{\"type\":\"object\"}]}}" "null"
  pub a_value_of_kind_boolean_is_of_no_other : Holds "{\"not\":{\"anyOf\":[{\"type\":\"null\"},{\"type\":\"integer\"},{\"type\":\"number\"},{\"type\":\"string\"},{\"type\":\"array\"},{\"type\":\"object\"}]}}" "true"
  pub a_value_of_kind_integer_is_of_no_other : Holds "{\"not\":{\"anyOf\":[{\"type\":\"null\"},{\"type\":\"boolean\"},{\"type\":\"string\"},{\"type\":\"array\"},{\"type\":\"object\"}]}}" "-5"
  pub a_value_of_kind_string_is_of_no_other : Holds "{\"not\":{\"anyOf\":[{\"type\":\"null\"},{\"type\":\"boolean\"},{\"type\":\"integer\"},{\"type\":\"number\"},{\"type\":\"array\"},{\"type\":\"object\"}]}}" "\"a\""
  pub a_value_of_kind_array_is_of_no_other : Holds "{\"not\":{\"anyOf\":[{\"type\":\"null\"},{\"type\":\"boolean\"},{\"type\":\"integer\"},{\"type\":\"number\"},{\"type\":\"string\"},{\"type\":\"object\"}]}}" "[1]"
  pub a_value_of_kind_object_is_of_no_other : Holds "{\"not\":{\"anyOf\":[{\"type\":\"null\"},{\"type\":\"boolean\"},{\"type\":\"integer\"},{\"type\":\"number\"},{\"type\":\"string\"},{\"type\":\"array\"}]}}" "{}"
  pub a_fraction_is_a_number : Holds "{\"type\":\"number\"}" "1.5"
  pub a_fraction_is_no_integer : Fails "{\"type\":\"integer\"}" "1.5" ("value is not of type \"integer\" @ \"\", /type" ∷ [])
  pub a_text_shows_no_fraction : Fails "{\"type\":\"object\"}" "[\"a\",1.5]" ("value is not of type \"object\" @ \"\", /type" ∷ [])
  pub a_constant_number : Holds "{\"const\":-3}" "-3"
  pub another_number : Fails "{\"const\":-3}" "3" ("-3 was expected @ \"\", /const" ∷ [])
  pub a_text_for_a_number : Fails "{\"const\":3}" "\"3\"" ("3 was expected @ \"\", /const" ∷ [])
  pub a_constant_text : Holds "{\"const\":\"a/b\"}" "\"a/b\""
  pub another_text : Fails "{\"const\":\"a\"}" "null" ("\"a\" was expected @ \"\", /const" ∷ [])
  pub the_minimum_itself : Holds "{\"minimum\":-3}" "-3"
  pub less_than_the_minimum : Fails "{\"minimum\":-3}" "-4" ("-4 is less than the minimum of -3 @ \"\", /minimum" ∷ [])
  pub the_maximum_itself : Holds "{\"maximum\":18446744073709551615}" "18446744073709551615"
  pub greater_than_the_maximum : Fails "{\"maximum\":-3}" "0" ("0 is greater than the maximum of -3 @ \"\", /maximum" ∷ [])
  pub a_fraction_is_no_whole_number : Holds "{\"minimum\":3,\"maximum\":1,\"multipleOf\":7}" "2.5"
  pub a_text_is_no_whole_number : Holds "{\"minimum\":3,\"maximum\":1,\"multipleOf\":7}" "\"2\""
  pub a_multiple_below_zero : Holds "{\"multipleOf\":3}" "-6"
  pub no_multiple_below_zero : Fails "{\"multipleOf\":3}" "-7" ("-7 is not a multiple of 3 @ \"\", /multipleOf" ∷ [])
  pub two_characters_of_four_bytes : Holds "{\"minLength\":2,\"maxLength\":2}" "\"\\u00e9\\u00e9\""
  pub one_character_of_two_bytes : Refuses "{\"minLength\":2}" "\"\\u00e9\""
  pub three_characters : Fails "{\"maxLength\":2}" "\"abc\"" ("\"abc\" is longer than 2 characters @ \"\", /maxLength" ∷ [])
  pub a_number_has_no_length : Holds "{\"minLength\":2,\"maxLength\":2}" "1"
  pub kinds_have_names : Is_refused "{\"type\":[\"string\"]}" ("[\"string\"] is not a value for \"type\" @ \"\", /type" ∷ [])
  pub a_constant_object : Is_refused "{\"const\":{}}" ("{} is not a value for \"const\" @ \"\", /const" ∷ [])
  pub a_text_as_maximum : Is_refused "{\"maximum\":\"1\"}" ("\"1\" is not a value for \"maximum\" @ \"\", /maximum" ∷ [])
  pub multiples_of_zero : Is_refused "{\"multipleOf\":0}" ("0 is not a value for \"multipleOf\" @ \"\", /multipleOf" ∷ [])
  pub a_length_below_zero : Is_refused "{\"minLength\":-1}" ("-1 is not a value for \"minLength\" @ \"\", /minLength" ∷ [])
  pub kind_is_unknown : Is_refused "{\"type\":\"float\"}" ("\"float\" is not a value for \"type\" @ \"\", /type" ∷ [])
  pub null_as_constant : Is_refused "{\"const\":null}" ("null is not a value for \"const\" @ \"\", /const" ∷ [])
  pub no_leaf_takes_a_fraction : None_promises_its_refusal ("{\"const\":1.5}" ∷ "{\"minimum\":1.5}" ∷ "{\"maximum\":1.5}" ∷ "{\"multipleOf\":1.5}" ∷ "{\"minLength\":1.5}" ∷ "{\"maxLength\":1.5}" ∷ [])
  pub each_kind_builds : All_build ("{\"type\":\"null\"}" ∷ "{\"type\":\"boolean\"}" ∷ "{\"type\":\"integer\"}" ∷ "{\"type\":\"number\"}" ∷ "{\"type\":\"string\"}" ∷ "{\"type\":\"array\"}" ∷ "{\"type\":\"object\"}" ∷ [])
  pub constants_and_limits_build : All_build ("{\"const\":-1}" ∷ "{\"const\":0}" ∷ "{\"const\":1}" ∷ "{\"const\":18446744073709551615}" ∷ "{\"minimum\":-1}" ∷ "{\"minimum\":0}" ∷ "{\"minimum\":1}" ∷ "{\"minimum\":18446744073709551615}" ∷ "{\"maximum\":-1}" ∷ "{\"maximum\":0}" ∷ "{\"maximum\":1}" ∷ "{\"maximum\":18446744073709551615}" ∷ "{\"const\":\"\"}" ∷ "{\"multipleOf\":1}" ∷ "{\"minLength\":0}" ∷ "{\"maxLength\":0}" ∷ [])
  pub bodies_build_alone_and_behind_slow : All_build ("{\"patternProperties\":{\"x\":{}}}" ∷ "{\"patternProperties\":{\"x$\":{}}}" ∷ "{\"patternProperties\":{\"\\\\.\":{}}}" ∷ "{\"patternProperties\":{\"(slow)x\":{}}}" ∷ "{\"patternProperties\":{\"(slow)\\\\.\":{}}}" ∷ [])
  pub a_greater_number_below_zero : Fails "{\"const\":-3}" "-2" ("-3 was expected @ \"\", /const" ∷ [])
  pub a_text_that_begins_so : Fails "{\"const\":\"a\"}" "\"ab\"" ("\"a\" was expected @ \"\", /const" ∷ [])
  pub a_text_in_capitals : Fails "{\"const\":\"a\"}" "\"A\"" ("\"a\" was expected @ \"\", /const" ∷ [])
  pub a_number_past_the_signed_ones : Holds "{\"minimum\":5}" "9223372036854775808"
  pub zero_is_a_multiple : Holds "{\"multipleOf\":3}" "0"
  pub one_character_of_four_bytes : Holds "{\"maxLength\":1}" "\"\\ud83d\\ude00\""
  pub an_unknown_keyword_is_ignored : Holds "{\"enum\":[]}" "1"
  pub a_class_is_refused : Is_refused "{\"patternProperties\":{\"[a-z]\":{}}}" ("\"[a-z]\" is not a \"regex\" @ \"\", /patternProperties/[a-z]" ∷ [])
  pub a_slow_nothing_is_refused : Is_refused "{\"patternProperties\":{\"(slow)\":{}}}" ("\"(slow)\" is not a \"regex\" @ \"\", /patternProperties/(slow)" ∷ [])
  pub a_slow_anchor_is_refused : Is_refused "{\"patternProperties\":{\"(slow)^a\":{}}}" ("\"(slow)^a\" is not a \"regex\" @ \"\", /patternProperties/(slow)^a" ∷ [])
  pub an_empty_pattern_is_refused : Is_refused "{\"patternProperties\":{\"\":{}}}" ("\"\" is not a \"regex\" @ \"\", /patternProperties/" ∷ [])
  pub two_anchors_is_refused : Is_refused "{\"patternProperties\":{\"^$\":{}}}" ("\"^$\" is not a \"regex\" @ \"\", /patternProperties/^$" ∷ [])
  pub a_slow_end_is_refused : Is_refused "{\"patternProperties\":{\"(slow)a$\":{}}}" ("\"(slow)a$\" is not a \"regex\" @ \"\", /patternProperties/(slow)a$" ∷ [])
  pub the_end_is_not_the_start : Says_of "a$" "ab" unmatched unmatched
  pub the_end_is_the_end : Says_of "a$" "ba" matched matched
  pub the_start_is_the_start : Says_of "^a" "ba" unmatched unmatched
  pub both_ends_are_the_whole : Says_of "^a$" "ab" unmatched unmatched
  pub the_end_is_behind_a_line_feed : Says_of "a$" "a\n" unmatched unmatched
  pub a_test_needs_no_matcher : Says_of "^(a|b)$" "b" unmatched matched
  pub a_body_stands_anywhere : Fails "{\"patternProperties\":{\"b\":false}}" "{\"abc\":1,\"ac\":2}" ("False schema does not allow 1 @ /abc, /patternProperties/b" ∷ [])
  pub an_escaped_body_stands_anywhere : Fails "{\"patternProperties\":{\"\\\\.\":false}}" "{\"a.c\":1,\"abc\":2}" ("False schema does not allow 1 @ /a.c, /patternProperties/\\." ∷ [])
