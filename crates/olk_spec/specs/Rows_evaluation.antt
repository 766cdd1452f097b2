-- Evaluation trees.
use Prim.Native.String.{String as Quoted}
use Rattle.olk_spec.specs.Answers.{Evaluates, Has_nodes}

abbrev pub two_required : Quoted
two_required = "{\"properties\":{\"a\":{\"type\":\"integer\"},\"b\":{\"type\":\"string\"}},\"required\":[\"a\",\"b\"]}"

pub record Rows_evaluation : Type 0 where
  pub the_names_met_are_shown : Evaluates two_required "{\"a\":1,\"b\":\"x\"}" "{\"annotations\":[{\"instancePath\":\"\",\"names\":[\"a\",\"b\"],\"schemaPath\":\"/properties\"}],\"errors\":[],\"valid\":true}"
  pub a_fused_validator_stands_at_its_keyword : Has_nodes two_required "{\"a\":1,\"b\":\"x\"}" "\"\"(/properties(/properties/a(/properties/a/type))(/properties/b(/properties/b/type)))"
  pub two_missing_names_are_two_errors : Evaluates two_required "{}" "{\"annotations\":[],\"errors\":[{\"instancePath\":\"\",\"keyword\":\"required\",\"message\":\"\\\"a\\\" is a required property\",\"schemaPath\":\"/required\"},{\"instancePath\":\"\",\"keyword\":\"required\",\"message\":\"\\\"b\\\" is a required property\",\"schemaPath\":\"/required\"}],\"valid\":false}"
  pub a_missing_name_is_a_child_at_required : Evaluates "{\"properties\":{\"a\":{}},\"additionalProperties\":false,\"required\":[\"z\"]}" "{}" "{\"annotations\":[],\"errors\":[{\"instancePath\":\"\",\"keyword\":\"required\",\"message\":\"\\\"z\\\" is a required property\",\"schemaPath\":\"/required\"}],\"valid\":false}"
  pub a_name_for_each_match : Evaluates "{\"patternProperties\":{\"^a\":{},\"^ab\":{}}}" "{\"abc\":1}" "{\"annotations\":[{\"instancePath\":\"\",\"names\":[\"abc\",\"abc\"],\"schemaPath\":\"/patternProperties\"}],\"errors\":[],\"valid\":true}"
  pub more_than_one_branch_is_an_own_error : Evaluates "{\"oneOf\":[{\"type\":\"string\"},{\"maxLength\":3}]}" "\"\"" "{\"annotations\":[],\"errors\":[{\"instancePath\":\"\",\"keyword\":\"oneOf\",\"message\":\"more than one subschema succeeded\",\"schemaPath\":\"/oneOf\"}],\"valid\":false}"
  pub matches_stand_in_a_child_of_their_own : Evaluates "{\"additionalProperties\":{\"type\":\"integer\"},\"patternProperties\":{\"^x\":{}}}" "{\"x1\":\"t\",\"y\":2}" "{\"annotations\":[{\"instancePath\":\"\",\"names\":[\"y\"],\"schemaPath\":\"/additionalProperties\"},{\"instancePath\":\"\",\"names\":[\"x1\"],\"schemaPath\":\"/patternProperties\"}],\"errors\":[],\"valid\":true}"
  pub of_14_names_two_are_missing : Has_nodes "{\"properties\":{\"p00\":{},\"p01\":{},\"p02\":{},\"p03\":{},\"p04\":{},\"p05\":{},\"p06\":{},\"p07\":{},\"p08\":{},\"p09\":{},\"p10\":{},\"p11\":{},\"p12\":{},\"p13\":{}},\"required\":[\"p00\",\"p01\"]}" "{}" "\"\"(/properties(/required))"
  pub of_15_names_two_are_missing : Has_nodes "{\"properties\":{\"p00\":{},\"p01\":{},\"p02\":{},\"p03\":{},\"p04\":{},\"p05\":{},\"p06\":{},\"p07\":{},\"p08\":{},\"p09\":{},\"p10\":{},\"p11\":{},\"p12\":{},\"p13\":{},\"p14\":{}},\"required\":[\"p00\",\"p01\"]}" "{}" "\"\"(/properties)(/required)"
  pub one_missing_name_stands_in_the_closed_object : Has_nodes "{\"properties\":{\"a\":{}},\"additionalProperties\":false,\"required\":[\"z\"]}" "{}" "\"\"(/additionalProperties(/required))"
  pub beside_patterns_it_stands_alone : Has_nodes "{\"properties\":{\"a\":{}},\"patternProperties\":{\"^b\":{}},\"additionalProperties\":false,\"required\":[\"z\"]}" "{}" "\"\"(/additionalProperties)(/required)"
  pub a_condition_that_holds_is_shown : Has_nodes "{\"if\":true,\"then\":true,\"else\":false}" "1" "\"\"(/if(/if)(/then))"
  pub a_condition_that_fails_is_not_shown : Has_nodes "{\"if\":false,\"then\":false,\"else\":true}" "1" "\"\"(/if(/else))"
  pub a_schema_chosen_by_a_text_is_shown : Has_nodes "{\"propertyDependencies\":{\"k\":{\"a\":true,\"b\":false}}}" "{\"k\":\"a\"}" "\"\"(/propertyDependencies(/propertyDependencies/k/a))"
  pub errors_of_the_parent_come_first : Evaluates "{\"properties\":{\"a\":false},\"additionalProperties\":false}" "{\"a\":1,\"b\":2}" "{\"annotations\":[],\"errors\":[{\"instancePath\":\"\",\"keyword\":\"additionalProperties\",\"message\":\"Additional properties are not allowed ('b' was unexpected)\",\"schemaPath\":\"/additionalProperties\"},{\"instancePath\":\"/a\",\"keyword\":\"falseSchema\",\"message\":\"False schema does not allow 1\",\"schemaPath\":\"/properties/a\"}],\"valid\":false}"
  pub any_of_none_is_invalid_without_errors : Evaluates "{\"anyOf\":[]}" "1" "{\"annotations\":[],\"errors\":[],\"valid\":false}"
  pub one_of_none_is_invalid_without_errors : Evaluates "{\"oneOf\":[]}" "1" "{\"annotations\":[],\"errors\":[],\"valid\":false}"
  pub a_false_schema_is_an_error_of_its_place : Evaluates "{\"properties\":{\"a\":false}}" "{\"a\":1}" "{\"annotations\":[],\"errors\":[{\"instancePath\":\"/a\",\"keyword\":\"falseSchema\",\"message\":\"False schema does not allow 1\",\"schemaPath\":\"/properties/a\"}],\"valid\":false}"
