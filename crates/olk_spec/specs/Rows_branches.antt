-- Branches, negation and conditions.
use Rattle.std.specs.Prelude.{◌∷◌, []}
use Rattle.olk_spec.specs.Answers.{Holds, Fails, Builds}

pub record Rows_branches : Type 0 where
  pub any_of_none_refuses : Fails "{\"anyOf\":[]}" "1" ("1 is not valid under any of the schemas listed in the 'anyOf' keyword @ \"\", /anyOf []" ∷ [])
  pub one_of_none_refuses : Fails "{\"oneOf\":[]}" "1" ("1 is not valid under any of the schemas listed in the 'oneOf' keyword @ \"\", /oneOf []" ∷ [])
  pub all_of_none_accepts : Holds "{\"allOf\":[]}" "1"
  pub one_accepting_branch_of_any_of_is_enough : Holds "{\"anyOf\":[false,true]}" "1"
  pub two_accepting_branches_are_too_many : Fails "{\"oneOf\":[{\"type\":\"string\"},{\"maxLength\":3}]}" "\"\"" ("\"\" is valid under more than one of the schemas listed in the 'oneOf' keyword @ \"\", /oneOf [{}{}]" ∷ [])
  pub three_accepting_branches_are_too_many : Fails "{\"oneOf\":[true,true,true]}" "1" ("1 is valid under more than one of the schemas listed in the 'oneOf' keyword @ \"\", /oneOf [{}{}{}]" ∷ [])
  pub one_accepting_branch_is_enough : Holds "{\"oneOf\":[{\"type\":\"string\"},{\"maxLength\":3}]}" "\"long\""
  pub the_other_branch_is_enough : Holds "{\"oneOf\":[{\"type\":\"string\"},{\"maxLength\":3}]}" "5"
  pub each_branch_tells_all_that_it_finds : Fails "{\"anyOf\":[{\"type\":\"integer\"},{\"required\":[\"a\",\"b\"]}]}" "{}" ("{} is not valid under any of the schemas listed in the 'anyOf' keyword @ \"\", /anyOf [{{} is not of type \"integer\" @ \"\", /anyOf/0/type;}{\"a\" is a required property @ \"\", /anyOf/1/required;\"b\" is a required property @ \"\", /anyOf/1/required;}]" ∷ [])
  pub branches_inside_a_branch_tell_theirs : Fails "{\"anyOf\":[{\"anyOf\":[{\"type\":\"integer\"},{\"type\":\"array\"}]}]}" "\"x\"" ("\"x\" is not valid under any of the schemas listed in the 'anyOf' keyword @ \"\", /anyOf [{\"x\" is not valid under any of the schemas listed in the 'anyOf' keyword @ \"\", /anyOf/0/anyOf [{\"x\" is not of type \"integer\" @ \"\", /anyOf/0/anyOf/0/type;}{\"x\" is not of type \"array\" @ \"\", /anyOf/0/anyOf/1/type;}];}]" ∷ [])
  pub inside_a_member_a_choice_and_its_branches_are_told_there : Fails "{\"properties\":{\"a\":{\"anyOf\":[false]}}}" "{\"a\":1}" ("1 is not valid under any of the schemas listed in the 'anyOf' keyword @ /a, /properties/a/anyOf [{False schema does not allow 1 @ /a, /properties/a/anyOf/0;}]" ∷ [])
  pub one_of_in_a_branch_is_told_of_the_branch : Fails "{\"not\":{\"not\":{\"oneOf\":[]}},\"allOf\":[{\"oneOf\":[]}]}" "1" ("1 is not valid under any of the schemas listed in the 'oneOf' keyword @ \"\", /allOf/0/oneOf []" ∷ "{\"not\":{\"oneOf\":[]}} is not allowed for 1 @ \"\", /not" ∷ [])
  pub a_negation_shows_its_schema : Fails "{\"not\":{\"type\":\"string\"}}" "\"foo\"" ("{\"type\":\"string\"} is not allowed for \"foo\" @ \"\", /not" ∷ [])
  pub a_double_negation_shows_the_inner_one : Fails "{\"not\":{\"not\":{\"type\":\"string\"}}}" "1" ("{\"not\":{\"type\":\"string\"}} is not allowed for 1 @ \"\", /not" ∷ [])
  pub inside_a_member_a_negation_is_told_there : Fails "{\"properties\":{\"a\":{\"not\":true}}}" "{\"a\":1}" ("true is not allowed for 1 @ /a, /properties/a/not" ∷ [])
  pub where_the_condition_fails_else_applies : Fails "{\"if\":{\"minimum\":0},\"then\":{\"multipleOf\":2},\"else\":{\"multipleOf\":2}}" "-1" ("-1 is not a multiple of 2 @ \"\", /else/multipleOf" ∷ [])
  pub where_the_condition_holds_then_applies : Fails "{\"if\":{\"minimum\":0},\"then\":{\"multipleOf\":2},\"else\":{\"multipleOf\":3}}" "3" ("3 is not a multiple of 2 @ \"\", /then/multipleOf" ∷ [])
  pub then_alone_is_unread : Holds "{\"then\":5}" "1"
  pub then_alone_builds : Builds "{\"then\":5}"
  pub else_alone_is_unread : Holds "{\"else\":false}" "1"
  pub each_branch_of_all_of_is_asked : Fails "{\"allOf\":[{\"type\":\"string\"},true,false]}" "1" ("1 is not of type \"string\" @ \"\", /allOf/0/type" ∷ "False schema does not allow 1 @ \"\", /allOf/2" ∷ [])
  pub the_branch_behind_100_others_has_position_100 : Fails "{\"allOf\":[true,true,true,true,true,true,true,true,true,true,true,true,true,true,true,true,true,true,true,true,true,true,true,true,true,true,true,true,true,true,true,true,true,true,true,true,true,true,true,true,true,true,true,true,true,true,true,true,true,true,true,true,true,true,true,true,true,true,true,true,true,true,true,true,true,true,true,true,true,true,true,true,true,true,true,true,true,true,true,true,true,true,true,true,true,true,true,true,true,true,true,true,true,true,true,true,true,true,true,true,false]}" "1" ("False schema does not allow 1 @ \"\", /allOf/100" ∷ [])
  pub the_eleventh_branch_has_position_10 : Fails "{\"allOf\":[true,true,true,true,true,true,true,true,true,true,false]}" "1" ("False schema does not allow 1 @ \"\", /allOf/10" ∷ [])
