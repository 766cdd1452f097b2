-- Declared, required and additional members.
use Rattle.std.specs.Prelude.{◌∷◌, []}
use Prim.Native.String.{String as Quoted}
use Rattle.olk_spec.specs.Answers.{Holds, Fails, Is_about}

abbrev pub two_required : Quoted
two_required = "{\"properties\":{\"a\":{\"type\":\"integer\"},\"b\":{\"type\":\"string\"}},\"required\":[\"a\",\"b\"]}"

abbrev pub near_names : Quoted
near_names = "{\"properties\":{\"prefix0003suffix00\":false,\"prefix0004suffix00\":true}}"

abbrev pub required_twice : Quoted
required_twice = "{\"properties\":{\"a\":{}},\"required\":[\"a\",\"a\"]}"

abbrev pub undeclared_required : Quoted
undeclared_required = "{\"properties\":{\"a\":{}},\"additionalProperties\":false,\"required\":[\"z\"]}"

abbrev pub five_arrays : Quoted
five_arrays = "{\"additionalProperties\":false,\"required\":[\"id\"],\"properties\":{\"id\":{\"type\":\"integer\"},\"a\":{\"type\":\"array\"},\"b\":{\"type\":\"array\"},\"c\":{\"type\":\"array\"},\"d\":{\"type\":\"array\"},\"e\":{\"type\":\"array\"}}}"

abbrev pub names_14 : Quoted
names_14 = "{\"properties\":{\"p00\":{\"type\":\"integer\"},\"p01\":{\"type\":\"integer\"},\"p02\":{\"type\":\"integer\"},\"p03\":{\"type\":\"integer\"},\"p04\":{\"type\":\"integer\"},\"p05\":{\"type\":\"integer\"},\"p06\":{\"type\":\"integer\"},\"p07\":{\"type\":\"integer\"},\"p08\":{\"type\":\"integer\"},\"p09\":{\"type\":\"integer\"},\"p10\":{\"type\":\"integer\"},\"p11\":{\"type\":\"integer\"},\"p12\":{\"type\":\"integer\"},\"p13\":{\"type\":\"integer\"}}}"

abbrev pub names_15 : Quoted
names_15 = "{\"properties\":{\"p00\":{\"type\":\"integer\"},\"p01\":{\"type\":\"integer\"},\"p02\":{\"type\":\"integer\"},\"p03\":{\"type\":\"integer\"},\"p04\":{\"type\":\"integer\"},\"p05\":{\"type\":\"integer\"},\"p06\":{\"type\":\"integer\"},\"p07\":{\"type\":\"integer\"},\"p08\":{\"type\":\"integer\"},\"p09\":{\"type\":\"integer\"},\"p10\":{\"type\":\"integer\"},\"p11\":{\"type\":\"integer\"},\"p12\":{\"type\":\"integer\"},\"p13\":{\"type\":\"integer\"},\"p14\":{\"type\":\"integer\"}}}"

abbrev pub names_16 : Quoted
names_16 = "{\"properties\":{\"p00\":{\"type\":\"integer\"},\"p01\":{\"type\":\"integer\"},\"p02\":{\"type\":\"integer\"},\"p03\":{\"type\":\"integer\"},\"p04\":{\"type\":\"integer\"},\"p05\":{\"type\":\"integer\"},\"p06\":{\"type\":\"integer\"},\"p07\":{\"type\":\"integer\"},\"p08\":{\"type\":\"integer\"},\"p09\":{\"type\":\"integer\"},\"p10\":{\"type\":\"integer\"},\"p11\":{\"type\":\"integer\"},\"p12\":{\"type\":\"integer\"},\"p13\":{\"type\":\"integer\"},\"p14\":{\"type\":\"integer\"},\"p15\":{\"type\":\"integer\"}}}"

pub record Rows_properties : Type 0 where
  pub extra_members_are_accepted : Holds two_required "{\"a\":1,\"b\":\"x\",\"c\":3}"
  pub missing_and_wrong_are_both_told : Fails two_required "{\"a\":\"x\"}" ("\"b\" is a required property @ \"\", /required" ∷ "\"x\" is not of type \"integer\" @ /a, /properties/a/type" ∷ [])
  pub a_wrong_member_alone_is_told : Fails two_required "{\"a\":\"x\",\"b\":\"y\"}" ("\"x\" is not of type \"integer\" @ /a, /properties/a/type" ∷ [])
  pub names_that_differ_early_are_told_apart : Holds "{\"properties\":{\"abcdEFGHijkl\":false,\"p\":true}}" "{\"abcdefghijkl\":1,\"p\":1}"
  pub names_that_differ_in_the_middle_are_told_apart : Fails "{\"properties\":{\"prefix0000suffix00\":{\"const\":0},\"prefix0001suffix00\":{\"const\":1},\"prefix0002suffix00\":{\"const\":2},\"prefix0003suffix00\":{\"const\":3},\"prefix0004suffix00\":{\"const\":4},\"prefix0005suffix00\":{\"const\":5},\"prefix0006suffix00\":{\"const\":6},\"prefix0007suffix00\":{\"const\":7},\"prefix0008suffix00\":{\"const\":8},\"prefix0009suffix00\":{\"const\":9},\"prefix0010suffix00\":{\"const\":10},\"prefix0011suffix00\":{\"const\":11},\"prefix0012suffix00\":{\"const\":12},\"prefix0013suffix00\":{\"const\":13}},\"additionalProperties\":false}" "{\"prefix0099suffix00\":0}" ("Additional properties are not allowed ('prefix0099suffix00' was unexpected) @ \"\", /additionalProperties" ∷ [])
  pub a_near_name_is_not_refused : Holds near_names "{\"prefix0004suffix00\":0}"
  pub a_false_schema_refuses_its_name : Fails near_names "{\"prefix0003suffix00\":0}" ("False schema does not allow 0 @ /prefix0003suffix00, /properties/prefix0003suffix00" ∷ [])
  pub a_name_required_twice_is_met_once : Holds required_twice "{\"a\":1}"
  pub a_name_required_twice_is_missing_twice : Fails required_twice "{}" ("\"a\" is a required property @ \"\", /required" ∷ "\"a\" is a required property @ \"\", /required" ∷ [])
  pub a_required_name_may_be_unexpected : Fails undeclared_required "{\"z\":1}" ("Additional properties are not allowed ('z' was unexpected) @ \"\", /additionalProperties" ∷ [])
  pub a_required_undeclared_name_is_missing : Fails undeclared_required "{}" ("\"z\" is a required property @ \"\", /required" ∷ [])
  pub unexpected_and_missing_are_both_told : Fails "{\"properties\":{\"a\":{}},\"additionalProperties\":false,\"required\":[\"a\"]}" "{\"b\":1}" ("\"a\" is a required property @ \"\", /required" ∷ "Additional properties are not allowed ('b' was unexpected) @ \"\", /additionalProperties" ∷ [])
  pub a_required_undeclared_name_may_be_present : Fails "{\"properties\":{\"a\":{\"type\":\"integer\"},\"b\":{}},\"required\":[\"a\",\"z\"]}" "{\"z\":2,\"y\":3}" ("\"a\" is a required property @ \"\", /required" ∷ [])
  pub no_declared_names_are_still_declared : Fails "{\"properties\":{},\"additionalProperties\":false}" "{\"x\":1}" ("Additional properties are not allowed ('x' was unexpected) @ \"\", /additionalProperties" ∷ [])
  pub alone_it_is_a_false_schema_over_the_first_member : Fails "{\"additionalProperties\":false}" "{\"x\":1}" ("False schema does not allow 1 @ \"\", /additionalProperties" ∷ [])
  pub alone_its_instance_is_the_first_value : Is_about "{\"additionalProperties\":false}" "{\"y\":2,\"x\":1}" ("1" ∷ [])
  pub additional_members_meet_their_schema : Fails "{\"additionalProperties\":{\"type\":\"integer\"},\"properties\":{\"foo\":{}}}" "{\"foo\":\"x\",\"bar\":\"a\"}" ("\"a\" is not of type \"integer\" @ /bar, /additionalProperties/type" ∷ [])
  pub an_unexpected_member_is_told_at_its_object : Fails "{\"properties\":{\"a\":{\"properties\":{},\"additionalProperties\":false}}}" "{\"a\":{\"b\":1}}" ("Additional properties are not allowed ('b' was unexpected) @ /a, /properties/a/additionalProperties" ∷ [])
  pub a_missing_member_is_told_at_its_object : Fails "{\"properties\":{\"a\":{\"required\":[\"b\"]}}}" "{\"a\":{}}" ("\"b\" is a required property @ /a, /properties/a/required" ∷ [])
  pub in_a_branch_an_unexpected_member_is_told_of_the_branch : Fails "{\"allOf\":[{\"properties\":{},\"additionalProperties\":false}]}" "{\"b\":1}" ("Additional properties are not allowed ('b' was unexpected) @ \"\", /allOf/0/additionalProperties" ∷ [])
  pub a_fifth_container_is_asked : Fails five_arrays "{\"a\":[],\"b\":[],\"c\":[],\"d\":[],\"e\":{},\"id\":1}" ("{} is not of type \"array\" @ /e, /properties/e/type" ∷ [])
  pub five_containers_are_accepted : Holds five_arrays "{\"a\":[],\"b\":[],\"c\":[],\"d\":[],\"e\":[],\"id\":1}"
  pub the_last_of_14_names_is_asked : Fails names_14 "{\"p00\":1,\"p01\":1,\"p02\":1,\"p03\":1,\"p04\":1,\"p05\":1,\"p06\":1,\"p07\":1,\"p08\":1,\"p09\":1,\"p10\":1,\"p11\":1,\"p12\":1,\"p13\":\"x\",\"p14\":1,\"p15\":1,\"p16\":1,\"p17\":1,\"p18\":1,\"p19\":1}" ("\"x\" is not of type \"integer\" @ /p13, /properties/p13/type" ∷ [])
  pub the_last_of_14_names_is_asked_alone : Fails names_14 "{\"p13\":\"x\"}" ("\"x\" is not of type \"integer\" @ /p13, /properties/p13/type" ∷ [])
  pub the_last_of_15_names_is_asked : Fails names_15 "{\"p00\":1,\"p01\":1,\"p02\":1,\"p03\":1,\"p04\":1,\"p05\":1,\"p06\":1,\"p07\":1,\"p08\":1,\"p09\":1,\"p10\":1,\"p11\":1,\"p12\":1,\"p13\":1,\"p14\":\"x\",\"p15\":1,\"p16\":1,\"p17\":1,\"p18\":1,\"p19\":1}" ("\"x\" is not of type \"integer\" @ /p14, /properties/p14/type" ∷ [])
  pub the_last_of_15_names_is_asked_alone : Fails names_15 "{\"p14\":\"x\"}" ("\"x\" is not of type \"integer\" @ /p14, /properties/p14/type" ∷ [])
  pub the_last_of_16_names_is_asked : Fails names_16 "{\"p00\":1,\"p01\":1,\"p02\":1,\"p03\":1,\"p04\":1,\"p05\":1,\"p06\":1,\"p07\":1,\"p08\":1,\"p09\":1,\"p10\":1,\"p11\":1,\"p12\":1,\"p13\":1,\"p14\":1,\"p15\":\"x\",\"p16\":1,\"p17\":1,\"p18\":1,\"p19\":1}" ("\"x\" is not of type \"integer\" @ /p15, /properties/p15/type" ∷ [])
  pub the_last_of_16_names_is_asked_alone : Fails names_16 "{\"p15\":\"x\"}" ("\"x\" is not of type \"integer\" @ /p15, /properties/p15/type" ∷ [])
  pub paths_are_escaped : Fails "{\"properties\":{\"a/b\":false}}" "{\"a/b\":1}" ("False schema does not allow 1 @ /a~1b, /properties/a~1b" ∷ [])
  pub a_name_beyond_ascii_stands_as_it_is_in_paths : Fails "{\"properties\":{\"\\u00e9\":false}}" "{\"\\u00e9\":1}" ("False schema does not allow 1 @ /Ã©, /properties/Ã©" ∷ [])
  pub quotes_and_percents_stand_as_they_are_in_paths : Fails "{\"properties\":{\"\\\"\":false,\"%\":false}}" "{\"\\\"\":1,\"%\":2}" ("False schema does not allow 1 @ /\", /properties/\"" ∷ "False schema does not allow 2 @ /%, /properties/%" ∷ [])
  pub a_missing_name_is_told_as_json : Fails "{\"required\":[\"a\\\"b\\n\"]}" "{}" ("\"a\\\"b\\n\" is a required property @ \"\", /required" ∷ [])
  pub three_unexpected_names_are_told_as_they_are : Fails "{\"properties\":{},\"additionalProperties\":false}" "{\"a\":1,\"b'\\\"\":2,\"c\":3}" ("Additional properties are not allowed ('a', 'b'\"', 'c' were unexpected) @ \"\", /additionalProperties" ∷ [])
  pub a_member_that_is_null_is_there : Fails "{\"required\":[\"a\"],\"dependentRequired\":{\"a\":[\"b\"]}}" "{\"a\":null}" ("\"b\" is a required property @ \"\", /dependentRequired" ∷ [])
  pub a_member_that_is_false_is_there : Fails "{\"required\":[\"a\"],\"dependentRequired\":{\"a\":[\"b\"]}}" "{\"a\":false}" ("\"b\" is a required property @ \"\", /dependentRequired" ∷ [])
  pub members_that_are_null_are_declared_and_unexpected : Fails "{\"properties\":{\"a\":false},\"additionalProperties\":false}" "{\"a\":null,\"b\":null}" ("Additional properties are not allowed ('b' was unexpected) @ \"\", /additionalProperties" ∷ "False schema does not allow null @ /a, /properties/a" ∷ [])
  pub what_other_keywords_and_branches_name_is_additional : Fails "{\"allOf\":[{\"properties\":{\"a\":{}}}],\"dependentSchemas\":{\"b\":{}},\"properties\":{},\"additionalProperties\":false}" "{\"a\":1,\"b\":2}" ("Additional properties are not allowed ('a', 'b' were unexpected) @ \"\", /additionalProperties" ∷ [])
  pub in_an_open_object_a_declared_name_meets_its_patterns : Fails "{\"properties\":{\"a\":{}},\"patternProperties\":{\"^a\":false}}" "{\"a\":1}" ("False schema does not allow 1 @ /a, /patternProperties/^a" ∷ [])
  pub other_values_pass : Holds "{\"properties\":{\"a\":false},\"required\":[\"a\"],\"additionalProperties\":false,\"patternProperties\":{\"\":false},\"propertyNames\":false,\"dependentRequired\":{\"a\":[\"b\"]},\"dependentSchemas\":{\"a\":false},\"dependencies\":{\"a\":false},\"propertyDependencies\":{\"a\":{\"b\":false}}}" "[1]"
