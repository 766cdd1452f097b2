-- What a build counts, and how many matchers a verdict may ask.
use Prim.Native.String.{String as Quoted}
use Rattle.olk_spec.specs.Answers.{Asks, Costs}

abbrev pub slow_declared : Quoted
slow_declared = "{\"properties\":{\"ax\":{}},\"patternProperties\":{\"(slow)x\":{\"type\":\"integer\"}},\"additionalProperties\":false}"

abbrev pub prefix_and_suffix : Quoted
prefix_and_suffix = "{\"patternProperties\":{\"^x\":{},\"spam$\":{\"type\":\"integer\"}}}"

abbrev pub closed_suffix : Quoted
closed_suffix = "{\"properties\":{\"a\":{},\"bspam\":{}},\"patternProperties\":{\"spam$\":{}},\"additionalProperties\":false}"

abbrev pub three_patterns : Quoted
three_patterns = "{\"additionalProperties\":false,\"properties\":{\"a\":{},\"b\":{}},\"patternProperties\":{\"x\":{},\"y$\":{},\"^z\":{}}}"

abbrev pub one_name_and_one_pattern : Quoted
one_name_and_one_pattern = "{\"properties\":{\"b\":{}},\"patternProperties\":{\"a\":{}}}"

abbrev pub beside_an_additional_schema : Quoted
beside_an_additional_schema = "{\"properties\":{\"a\":{}},\"patternProperties\":{\"x\":{}},\"additionalProperties\":{}}"

abbrev pub patterns_65 : Quoted
patterns_65 = "{\"additionalProperties\":false,\"properties\":{\"m64\":{}},\"patternProperties\":{\"m00\":{},\"m01\":{},\"m02\":{},\"m03\":{},\"m04\":{},\"m05\":{},\"m06\":{},\"m07\":{},\"m08\":{},\"m09\":{},\"m10\":{},\"m11\":{},\"m12\":{},\"m13\":{},\"m14\":{},\"m15\":{},\"m16\":{},\"m17\":{},\"m18\":{},\"m19\":{},\"m20\":{},\"m21\":{},\"m22\":{},\"m23\":{},\"m24\":{},\"m25\":{},\"m26\":{},\"m27\":{},\"m28\":{},\"m29\":{},\"m30\":{},\"m31\":{},\"m32\":{},\"m33\":{},\"m34\":{},\"m35\":{},\"m36\":{},\"m37\":{},\"m38\":{},\"m39\":{},\"m40\":{},\"m41\":{},\"m42\":{},\"m43\":{},\"m44\":{},\"m45\":{},\"m46\":{},\"m47\":{},\"m48\":{},\"m49\":{},\"m50\":{},\"m51\":{},\"m52\":{},\"m53\":{},\"m54\":{},\"m55\":{},\"m56\":{},\"m57\":{},\"m58\":{},\"m59\":{},\"m60\":{},\"m61\":{},\"m62\":{},\"m63\":{},\"m64\":{}}}"

abbrev pub patterns_66 : Quoted
patterns_66 = "{\"additionalProperties\":false,\"properties\":{\"m64\":{}},\"patternProperties\":{\"(slow)m64\":false,\"m00\":{},\"m01\":{},\"m02\":{},\"m03\":{},\"m04\":{},\"m05\":{},\"m06\":{},\"m07\":{},\"m08\":{},\"m09\":{},\"m10\":{},\"m11\":{},\"m12\":{},\"m13\":{},\"m14\":{},\"m15\":{},\"m16\":{},\"m17\":{},\"m18\":{},\"m19\":{},\"m20\":{},\"m21\":{},\"m22\":{},\"m23\":{},\"m24\":{},\"m25\":{},\"m26\":{},\"m27\":{},\"m28\":{},\"m29\":{},\"m30\":{},\"m31\":{},\"m32\":{},\"m33\":{},\"m34\":{},\"m35\":{},\"m36\":{},\"m37\":{},\"m38\":{},\"m39\":{},\"m40\":{},\"m41\":{},\"m42\":{},\"m43\":{},\"m44\":{},\"m45\":{},\"m46\":{},\"m47\":{},\"m48\":{},\"m49\":{},\"m50\":{},\"m51\":{},\"m52\":{},\"m53\":{},\"m54\":{},\"m55\":{},\"m56\":{},\"m57\":{},\"m58\":{},\"m59\":{},\"m60\":{},\"m61\":{},\"m62\":{},\"m63\":{},\"m64\":{}}}"

pub record Rows_costs : Type 0 where
  pub a_matcher_is_asked_for_a_declared_name : Costs slow_declared 3 1 1 1
  pub an_unfinished_entry_is_asked_again : Asks slow_declared "{\"ax\":\"t\"}" 1
  pub tests_make_no_matcher : Costs prefix_and_suffix 3 1 0 0
  pub tests_ask_no_matcher : Asks prefix_and_suffix "{\"x1\":\"t\"}" 0
  pub patterns_beside_true_are_compiled_once : Costs "{\"additionalProperties\":true,\"patternProperties\":{\"^x\":{\"type\":\"integer\"}}}" 2 1 0 0
  pub a_table_of_tests_asks_no_matcher : Costs closed_suffix 4 0 0 0
  pub declared_names_ask_no_matcher : Asks closed_suffix "{\"a\":1,\"bspam\":2}" 0
  pub other_names_ask_no_matcher : Asks closed_suffix "{\"a\":1,\"xspam\":1}" 0
  pub a_condition_that_is_read_is_compiled : Costs "{\"allOf\":[{\"if\":{\"type\":\"integer\"},\"then\":{\"minimum\":1}},true]}" 5 2 0 0
  pub a_condition_alone_is_not_compiled : Costs "{\"if\":{\"type\":\"integer\"}}" 1 0 0 0
  pub true_for_names_is_not_compiled : Costs "{\"propertyNames\":true}" 1 0 0 0
  pub false_for_names_is_not_compiled : Costs "{\"propertyNames\":false}" 1 0 0 0
  pub a_name_list_is_not_compiled : Costs "{\"dependencies\":{\"a\":[\"b\"],\"c\":{}}}" 2 0 0 0
  pub one_of_three_patterns_makes_a_matcher : Costs three_patterns 6 0 1 2
  pub one_of_three_patterns_asks_a_matcher : Asks three_patterns "{\"c\":1}" 1
  pub schemas_chosen_by_a_text_are_compiled : Costs "{\"propertyDependencies\":{\"k\":{\"a\":{\"type\":\"string\"},\"b\":{}}}}" 3 1 0 0
  pub in_a_branch_three_names_and_two_patterns_ask_six : Costs "{\"allOf\":[{\"properties\":{\"a\":{},\"b\":{},\"c\":{}},\"patternProperties\":{\"x\":{},\"y\":{}},\"additionalProperties\":false}]}" 7 0 2 6
  pub each_place_is_compiled_once : Costs "{\"additionalProperties\":{},\"propertyNames\":{},\"not\":{},\"if\":{},\"then\":{},\"else\":{},\"title\":{},\"allOf\":[{}],\"anyOf\":[{}],\"oneOf\":[{}],\"properties\":{\"a\":{}},\"patternProperties\":{\"a\":{}},\"dependentSchemas\":{\"a\":{}},\"dependencies\":{\"a\":{}},\"propertyDependencies\":{\"k\":{\"a\":{}}}}" 15 0 1 1
  pub patterns_inside_patterns_are_asked : Asks "{\"patternProperties\":{\"a\":{\"patternProperties\":{\"b\":{}}}}}" "{\"a\":{\"b\":1},\"c\":2}" 3
  pub each_branch_may_be_asked : Asks "{\"anyOf\":[true,{\"patternProperties\":{\"x\":{}}}]}" "{\"x\":1}" 1
  pub each_member_asks_the_matcher : Asks "{\"patternProperties\":{\"(slow)x\":{\"type\":\"integer\"}}}" "{\"ax\":\"t\",\"b\":\"t\"}" 2
  pub without_additional_properties_there_is_no_table : Costs one_name_and_one_pattern 3 0 1 0
  pub without_a_table_a_declared_name_asks : Asks one_name_and_one_pattern "{\"b\":1}" 1
  pub beside_an_additional_schema_there_is_a_table : Costs beside_an_additional_schema 4 0 1 1
  pub beside_an_additional_schema_a_declared_name_asks_nothing : Asks beside_an_additional_schema "{\"a\":1}" 0
  pub a_negation_asks : Asks "{\"not\":{\"patternProperties\":{\"a\":false}}}" "{\"b\":1}" 1
  pub a_branch_of_one_of_asks : Asks "{\"oneOf\":[{\"patternProperties\":{\"a\":false}}]}" "{\"b\":1}" 1
  pub the_second_branch_of_one_of_asks : Asks "{\"oneOf\":[{},{\"patternProperties\":{\"a\":false}}]}" "{\"b\":1}" 1
  pub the_third_branch_of_any_of_asks : Asks "{\"anyOf\":[{},{},{\"patternProperties\":{\"a\":false}}]}" "{\"b\":1}" 1
  pub a_condition_asks : Asks "{\"if\":{\"patternProperties\":{\"a\":false}},\"then\":true}" "{\"b\":1}" 1
  pub beside_else_a_condition_asks : Asks "{\"if\":{\"patternProperties\":{\"a\":false}},\"else\":true}" "{\"b\":1}" 1
  pub what_applies_where_the_condition_holds_asks : Asks "{\"if\":true,\"then\":{\"patternProperties\":{\"a\":{}}}}" "{\"b\":1}" 1
  pub a_dependent_schema_asks : Asks "{\"dependentSchemas\":{\"b\":{\"patternProperties\":{\"a\":{}}}}}" "{\"b\":1}" 1
  pub a_schema_of_a_dependency_asks : Asks "{\"dependencies\":{\"b\":{\"patternProperties\":{\"a\":{}}}}}" "{\"b\":1}" 1
  pub a_branch_of_all_of_asks : Asks "{\"allOf\":[{\"patternProperties\":{\"a\":{}}}]}" "{\"b\":1}" 1
  pub what_applies_where_the_condition_fails_asks : Asks "{\"if\":false,\"else\":{\"patternProperties\":{\"a\":{}}}}" "{\"b\":1}" 1
  pub a_schema_chosen_by_a_text_asks : Asks "{\"propertyDependencies\":{\"k\":{\"t\":{\"patternProperties\":{\"a\":{}}}}}}" "{\"k\":\"t\"}" 1
  pub a_declared_member_asks : Asks "{\"properties\":{\"b\":{\"patternProperties\":{\"a\":{}}}}}" "{\"b\":{\"c\":1}}" 1
  pub two_unfinished_entries_are_asked_again : Asks "{\"properties\":{\"ab\":{}},\"patternProperties\":{\"(slow)a\":{},\"(slow)b\":{}},\"additionalProperties\":false}" "{\"ab\":1}" 2
  pub an_additional_schema_asks : Asks "{\"additionalProperties\":{\"patternProperties\":{\"a\":{}}}}" "{\"b\":{\"c\":1}}" 1
  pub a_member_and_its_leaf_are_counted : Costs "{\"properties\":{\"a\":{\"type\":\"integer\"}}}" 2 1 0 0
  pub else_alone_is_not_compiled : Costs "{\"else\":false}" 1 0 0 0
  pub a_schema_of_a_dependency_is_compiled : Costs "{\"dependencies\":{\"a\":false}}" 2 0 0 0
  pub a_dependent_schema_is_compiled : Costs "{\"dependentSchemas\":{\"a\":{}}}" 2 0 0 0
  pub an_additional_schema_is_compiled : Costs "{\"additionalProperties\":{}}" 2 0 0 0
  pub each_branch_of_one_of_is_compiled : Costs "{\"oneOf\":[{},{}]}" 3 0 0 0
  pub patterns_in_a_branch_make_matchers : Costs "{\"allOf\":[{\"patternProperties\":{\"a\":{}}}]}" 3 0 1 0
  pub a_table_of_65_patterns : Costs patterns_65 67 0 65 65
  pub a_table_of_66_patterns : Costs patterns_66 68 0 66 66
  pub no_entry_of_65_is_asked_again : Asks patterns_65 "{\"m64\":1}" 0
  pub one_entry_of_66_is_asked_again : Asks patterns_66 "{\"m64\":1}" 1
