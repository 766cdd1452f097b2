-- Malformed schemas, each with all that is wrong with it.
use Rattle.std.specs.Prelude.{◌∷◌, List, []}
use Prim.Native.String.{String as Quoted}
use Rattle.olk_spec.specs.Answers.{Is_refused, Builds, Are_refused_at}
use Rattle.olk_spec.specs.Forms.{Is_always_refused, All_build}

-- schemas, what each is refused for, and at which path below its own
abbrev pub wrong_inside : List (Quoted × Quoted × Quoted)
wrong_inside =
    ("{\"properties\":5}", "5 is not of type \"object\"", "/properties") ∷
    ("{\"patternProperties\":5}", "5 is not of type \"object\"", "/patternProperties") ∷
    ("{\"dependentRequired\":5}", "5 is not of type \"object\"", "/dependentRequired") ∷
    ("{\"dependentSchemas\":5}", "5 is not of type \"object\"", "/dependentSchemas") ∷
    ("{\"dependencies\":5}", "5 is not of type \"object\"", "/dependencies") ∷
    ("{\"propertyDependencies\":5}", "5 is not of type \"object\"", "/propertyDependencies") ∷
    ("{\"required\":5}", "5 is not of type \"array\"", "/required") ∷
    ("{\"allOf\":5}", "5 is not of type \"array\"", "/allOf") ∷
    ("{\"anyOf\":5}", "5 is not of type \"array\"", "/anyOf") ∷
    ("{\"oneOf\":5}", "5 is not of type \"array\"", "/oneOf") ∷
    ("{\"$ref\":5}", "\"$ref\" is not supported here", "/$ref") ∷
    ("{\"$dynamicRef\":5}", "\"$dynamicRef\" is not supported here", "/$dynamicRef") ∷
    ("{\"$recursiveRef\":5}", "\"$recursiveRef\" is not supported here", "/$recursiveRef") ∷
    ("{\"unevaluatedProperties\":5}", "\"unevaluatedProperties\" is not supported here", "/unevaluatedProperties") ∷
    ("{\"unevaluatedItems\":5}", "\"unevaluatedItems\" is not supported here", "/unevaluatedItems") ∷
    ("{\"additionalProperties\":5}", "5 is not of types \"boolean\", \"object\"", "/additionalProperties") ∷
    ("{\"patternProperties\":{\"(\":{}}}", "\"(\" is not a \"regex\"", "/patternProperties/(") ∷
    ("{\"required\":[5]}", "5 is not of type \"string\"", "/required") ∷
    ("{\"dependentRequired\":{\"a\":5}}", "5 is not of type \"array\"", "/dependentRequired/a") ∷
    ("{\"dependentRequired\":{\"a\":[\"b\",\"b\"]}}", "[\"b\",\"b\"] has non-unique elements", "/dependentRequired/a") ∷
    ("{\"dependentRequired\":{\"a\":[5]}}", "5 is not of type \"string\"", "/dependentRequired") ∷
    ("{\"dependencies\":{\"a\":[5]}}", "5 is not of type \"string\"", "/dependencies") ∷
    ("{\"propertyDependencies\":{\"a\":5}}", "5 is not of type \"object\"", "/propertyDependencies/a") ∷
    ("{\"type\":5}", "5 is not a value for \"type\"", "/type") ∷
    []

-- schemas, what each is refused for, and at which path below its own
abbrev pub no_schema : List (Quoted × Quoted × Quoted)
no_schema =
    ("null", "null is not of types \"boolean\", \"object\"", "") ∷
    ("5", "5 is not of types \"boolean\", \"object\"", "") ∷
    ("\"a\"", "\"a\" is not of types \"boolean\", \"object\"", "") ∷
    ("[]", "[] is not of types \"boolean\", \"object\"", "") ∷
    []

-- schemas, what each is refused for, and at which path below its own
abbrev pub no_schema_and_no_list : List (Quoted × Quoted × Quoted)
no_schema_and_no_list =
    ("null", "null is not of types \"boolean\", \"object\"", "") ∷
    ("5", "5 is not of types \"boolean\", \"object\"", "") ∷
    ("\"a\"", "\"a\" is not of types \"boolean\", \"object\"", "") ∷
    []

-- schemas, what each is refused for, and at which path below its own
abbrev pub of_another_kind : List (Quoted × Quoted × Quoted)
of_another_kind =
    ("{\"properties\":null}", "null is not of type \"object\"", "/properties") ∷
    ("{\"patternProperties\":null}", "null is not of type \"object\"", "/patternProperties") ∷
    ("{\"dependentRequired\":null}", "null is not of type \"object\"", "/dependentRequired") ∷
    ("{\"dependentSchemas\":null}", "null is not of type \"object\"", "/dependentSchemas") ∷
    ("{\"dependencies\":null}", "null is not of type \"object\"", "/dependencies") ∷
    ("{\"propertyDependencies\":null}", "null is not of type \"object\"", "/propertyDependencies") ∷
    ("{\"propertyDependencies\":{\"a\":null}}", "null is not of type \"object\"", "/propertyDependencies/a") ∷
    ("{\"required\":null}", "null is not of type \"array\"", "/required") ∷
    ("{\"allOf\":null}", "null is not of type \"array\"", "/allOf") ∷
    ("{\"anyOf\":null}", "null is not of type \"array\"", "/anyOf") ∷
    ("{\"oneOf\":null}", "null is not of type \"array\"", "/oneOf") ∷
    ("{\"dependentRequired\":{\"a\":null}}", "null is not of type \"array\"", "/dependentRequired/a") ∷
    ("{\"required\":[null]}", "null is not of type \"string\"", "/required") ∷
    ("{\"dependentRequired\":{\"a\":[null]}}", "null is not of type \"string\"", "/dependentRequired") ∷
    ("{\"dependencies\":{\"a\":[null]}}", "null is not of type \"string\"", "/dependencies") ∷
    ("{\"properties\":true}", "true is not of type \"object\"", "/properties") ∷
    ("{\"patternProperties\":true}", "true is not of type \"object\"", "/patternProperties") ∷
    ("{\"dependentRequired\":true}", "true is not of type \"object\"", "/dependentRequired") ∷
    ("{\"dependentSchemas\":true}", "true is not of type \"object\"", "/dependentSchemas") ∷
    ("{\"dependencies\":true}", "true is not of type \"object\"", "/dependencies") ∷
    ("{\"propertyDependencies\":true}", "true is not of type \"object\"", "/propertyDependencies") ∷
    ("{\"propertyDependencies\":{\"a\":true}}", "true is not of type \"object\"", "/propertyDependencies/a") ∷
    ("{\"required\":true}", "true is not of type \"array\"", "/required") ∷
    ("{\"allOf\":true}", "true is not of type \"array\"", "/allOf") ∷
    ("{\"anyOf\":true}", "true is not of type \"array\"", "/anyOf") ∷
    ("{\"oneOf\":true}", "true is not of type \"array\"", "/oneOf") ∷
    ("{\"dependentRequired\":{\"a\":true}}", "true is not of type \"array\"", "/dependentRequired/a") ∷
    ("{\"required\":[true]}", "true is not of type \"string\"", "/required") ∷
    ("{\"dependentRequired\":{\"a\":[true]}}", "true is not of type \"string\"", "/dependentRequired") ∷
    ("{\"dependencies\":{\"a\":[true]}}", "true is not of type \"string\"", "/dependencies") ∷
    ("{\"properties\":\"a\"}", "\"a\" is not of type \"object\"", "/properties") ∷
    ("{\"patternProperties\":\"a\"}", "\"a\" is not of type \"object\"", "/patternProperties") ∷
    ("{\"dependentRequired\":\"a\"}", "\"a\" is not of type \"object\"", "/dependentRequired") ∷
    ("{\"dependentSchemas\":\"a\"}", "\"a\" is not of type \"object\"", "/dependentSchemas") ∷
    ("{\"dependencies\":\"a\"}", "\"a\" is not of type \"object\"", "/dependencies") ∷
    ("{\"propertyDependencies\":\"a\"}", "\"a\" is not of type \"object\"", "/propertyDependencies") ∷
    ("{\"propertyDependencies\":{\"a\":\"a\"}}", "\"a\" is not of type \"object\"", "/propertyDependencies/a") ∷
    ("{\"required\":\"a\"}", "\"a\" is not of type \"array\"", "/required") ∷
    ("{\"allOf\":\"a\"}", "\"a\" is not of type \"array\"", "/allOf") ∷
    ("{\"anyOf\":\"a\"}", "\"a\" is not of type \"array\"", "/anyOf") ∷
    ("{\"oneOf\":\"a\"}", "\"a\" is not of type \"array\"", "/oneOf") ∷
    ("{\"dependentRequired\":{\"a\":\"a\"}}", "\"a\" is not of type \"array\"", "/dependentRequired/a") ∷
    ("{\"properties\":[]}", "[] is not of type \"object\"", "/properties") ∷
    ("{\"patternProperties\":[]}", "[] is not of type \"object\"", "/patternProperties") ∷
    ("{\"dependentRequired\":[]}", "[] is not of type \"object\"", "/dependentRequired") ∷
    ("{\"dependentSchemas\":[]}", "[] is not of type \"object\"", "/dependentSchemas") ∷
    ("{\"dependencies\":[]}", "[] is not of type \"object\"", "/dependencies") ∷
    ("{\"propertyDependencies\":[]}", "[] is not of type \"object\"", "/propertyDependencies") ∷
    ("{\"propertyDependencies\":{\"a\":[]}}", "[] is not of type \"object\"", "/propertyDependencies/a") ∷
    ("{\"required\":[[]]}", "[] is not of type \"string\"", "/required") ∷
    ("{\"dependentRequired\":{\"a\":[[]]}}", "[] is not of type \"string\"", "/dependentRequired") ∷
    ("{\"dependencies\":{\"a\":[[]]}}", "[] is not of type \"string\"", "/dependencies") ∷
    ("{\"required\":{}}", "{} is not of type \"array\"", "/required") ∷
    ("{\"allOf\":{}}", "{} is not of type \"array\"", "/allOf") ∷
    ("{\"anyOf\":{}}", "{} is not of type \"array\"", "/anyOf") ∷
    ("{\"oneOf\":{}}", "{} is not of type \"array\"", "/oneOf") ∷
    ("{\"dependentRequired\":{\"a\":{}}}", "{} is not of type \"array\"", "/dependentRequired/a") ∷
    ("{\"required\":[{}]}", "{} is not of type \"string\"", "/required") ∷
    ("{\"dependentRequired\":{\"a\":[{}]}}", "{} is not of type \"string\"", "/dependentRequired") ∷
    ("{\"dependencies\":{\"a\":[{}]}}", "{} is not of type \"string\"", "/dependencies") ∷
    ("{\"$ref\":null}", "\"$ref\" is not supported here", "/$ref") ∷
    ("{\"$ref\":true}", "\"$ref\" is not supported here", "/$ref") ∷
    ("{\"$ref\":\"a\"}", "\"$ref\" is not supported here", "/$ref") ∷
    ("{\"$ref\":[]}", "\"$ref\" is not supported here", "/$ref") ∷
    ("{\"$ref\":{}}", "\"$ref\" is not supported here", "/$ref") ∷
    ("{\"$dynamicRef\":null}", "\"$dynamicRef\" is not supported here", "/$dynamicRef") ∷
    ("{\"$dynamicRef\":true}", "\"$dynamicRef\" is not supported here", "/$dynamicRef") ∷
    ("{\"$dynamicRef\":\"a\"}", "\"$dynamicRef\" is not supported here", "/$dynamicRef") ∷
    ("{\"$dynamicRef\":[]}", "\"$dynamicRef\" is not supported here", "/$dynamicRef") ∷
    ("{\"$dynamicRef\":{}}", "\"$dynamicRef\" is not supported here", "/$dynamicRef") ∷
    ("{\"$recursiveRef\":null}", "\"$recursiveRef\" is not supported here", "/$recursiveRef") ∷
    ("{\"$recursiveRef\":true}", "\"$recursiveRef\" is not supported here", "/$recursiveRef") ∷
    ("{\"$recursiveRef\":\"a\"}", "\"$recursiveRef\" is not supported here", "/$recursiveRef") ∷
    ("{\"$recursiveRef\":[]}", "\"$recursiveRef\" is not supported here", "/$recursiveRef") ∷
    ("{\"$recursiveRef\":{}}", "\"$recursiveRef\" is not supported here", "/$recursiveRef") ∷
    ("{\"unevaluatedProperties\":null}", "\"unevaluatedProperties\" is not supported here", "/unevaluatedProperties") ∷
    ("{\"unevaluatedProperties\":true}", "\"unevaluatedProperties\" is not supported here", "/unevaluatedProperties") ∷
    ("{\"unevaluatedProperties\":\"a\"}", "\"unevaluatedProperties\" is not supported here", "/unevaluatedProperties") ∷
    ("{\"unevaluatedProperties\":[]}", "\"unevaluatedProperties\" is not supported here", "/unevaluatedProperties") ∷
    ("{\"unevaluatedProperties\":{}}", "\"unevaluatedProperties\" is not supported here", "/unevaluatedProperties") ∷
    ("{\"unevaluatedItems\":null}", "\"unevaluatedItems\" is not supported here", "/unevaluatedItems") ∷
    ("{\"unevaluatedItems\":true}", "\"unevaluatedItems\" is not supported here", "/unevaluatedItems") ∷
    ("{\"unevaluatedItems\":\"a\"}", "\"unevaluatedItems\" is not supported here", "/unevaluatedItems") ∷
    ("{\"unevaluatedItems\":[]}", "\"unevaluatedItems\" is not supported here", "/unevaluatedItems") ∷
    ("{\"unevaluatedItems\":{}}", "\"unevaluatedItems\" is not supported here", "/unevaluatedItems") ∷
    []

pub record Rows_refusals : Type 0 where
  pub a_refused_pattern : Is_refused "{\"patternProperties\":{\"a/b~(\":{}}}" ("\"a/b~(\" is not a \"regex\" @ \"\", /patternProperties/a~1b~0(" ∷ [])
  pub declared_names_that_are_no_object : Is_refused "{\"properties\":5,\"additionalProperties\":false}" ("5 is not of type \"object\" @ \"\", /properties" ∷ [])
  pub a_reference_inside : Is_refused "{\"properties\":{\"a\":{\"$ref\":\"#\"}}}" ("\"$ref\" is not supported here @ \"\", /properties/a/$ref" ∷ [])
  pub a_list_with_a_repeated_name : Is_refused "{\"dependentRequired\":{\"a\":[\"b\",\"b\"]}}" ("[\"b\",\"b\"] has non-unique elements @ \"\", /dependentRequired/a" ∷ [])
  pub a_read_condition_that_is_no_schema : Is_refused "{\"if\":5,\"then\":{}}" ("5 is not of types \"boolean\", \"object\" @ \"\", /if" ∷ [])
  pub a_branch_that_is_no_schema : Is_refused "{\"allOf\":[5]}" ("5 is not of types \"boolean\", \"object\" @ \"\", /allOf/0" ∷ [])
  pub a_leaf_value_that_does_not_fit : Is_refused "{\"type\":\"text\"}" ("\"text\" is not a value for \"type\" @ \"\", /type" ∷ [])
  pub a_listed_name_that_is_no_text : Is_refused "{\"dependencies\":{\"a\":[1]}}" ("1 is not of type \"string\" @ \"\", /dependencies" ∷ [])
  pub equal_items_that_are_no_texts : Is_refused "{\"dependentRequired\":{\"a\":[1,1]}}" ("1 is not of type \"string\" @ \"\", /dependentRequired" ∷ [])
  pub a_repeated_name_before_another_item : Is_refused "{\"dependentRequired\":{\"a\":[\"b\",\"b\",1]}}" ("[\"b\",\"b\",1] has non-unique elements @ \"\", /dependentRequired/a" ∷ [])
  pub additional_properties_that_are_no_schema : Is_refused "{\"additionalProperties\":5,\"properties\":{\"a\":{}}}" ("5 is not of types \"boolean\", \"object\" @ \"\", /additionalProperties" ∷ [])
  pub a_required_item_that_is_no_text : Is_refused "{\"properties\":{\"a\":{}},\"additionalProperties\":false,\"required\":[5]}" ("5 is not of type \"string\" @ \"\", /required" ∷ [])
  pub a_reference_in_a_branch : Is_refused "{\"allOf\":[{\"$ref\":\"#\"},{\"type\":\"integer\"}]}" ("\"$ref\" is not supported here @ \"\", /allOf/0/$ref" ∷ [])
  pub property_dependencies_that_are_no_object : Is_refused "{\"propertyDependencies\":5}" ("5 is not of type \"object\" @ \"\", /propertyDependencies" ∷ [])
  pub an_entry_of_property_dependencies_that_is_no_object : Is_refused "{\"propertyDependencies\":{\"k\":5}}" ("5 is not of type \"object\" @ \"\", /propertyDependencies/k" ∷ [])
  pub a_schema_of_property_dependencies_that_is_none : Is_refused "{\"propertyDependencies\":{\"k\":{\"t/u\":5}}}" ("5 is not of types \"boolean\", \"object\" @ \"\", /propertyDependencies/k/t~1u" ∷ [])
  pub a_root_that_is_no_schema : Is_refused "5" ("5 is not of types \"boolean\", \"object\" @ \"\", \"\"" ∷ [])
  pub a_root_that_is_null : Is_refused "null" ("null is not of types \"boolean\", \"object\" @ \"\", \"\"" ∷ [])
  pub a_root_that_is_a_text : Is_refused "\"a\"" ("\"a\" is not of types \"boolean\", \"object\" @ \"\", \"\"" ∷ [])
  pub a_root_that_is_a_list : Is_refused "[]" ("[] is not of types \"boolean\", \"object\" @ \"\", \"\"" ∷ [])
  pub the_first_of_two_items_that_are_no_texts : Is_refused "{\"required\":[1,2]}" ("1 is not of type \"string\" @ \"\", /required" ∷ [])
  pub a_name_repeated_behind_another : Is_refused "{\"dependentRequired\":{\"a\":[\"b\",\"c\",\"b\"]}}" ("[\"b\",\"c\",\"b\"] has non-unique elements @ \"\", /dependentRequired/a" ∷ [])
  pub a_name_repeated_after_another : Is_refused "{\"dependentRequired\":{\"a\":[\"c\",\"b\",\"b\"]}}" ("[\"c\",\"b\",\"b\"] has non-unique elements @ \"\", /dependentRequired/a" ∷ [])
  pub beside_else_a_condition_is_read : Is_refused "{\"if\":5,\"else\":{}}" ("5 is not of types \"boolean\", \"object\" @ \"\", /if" ∷ [])
  pub beside_patterns_an_additional_schema_is_read : Is_refused "{\"patternProperties\":{},\"additionalProperties\":{\"not\":5}}" ("5 is not of types \"boolean\", \"object\" @ \"\", /additionalProperties/not" ∷ [])
  pub the_second_branch_of_one_of_is_read : Is_refused "{\"oneOf\":[{},5]}" ("5 is not of types \"boolean\", \"object\" @ \"\", /oneOf/1" ∷ [])
  pub the_second_dependent_schema_is_read : Is_refused "{\"dependentSchemas\":{\"a\":{},\"b\":5}}" ("5 is not of types \"boolean\", \"object\" @ \"\", /dependentSchemas/b" ∷ [])
  pub the_second_schema_of_dependencies_is_read : Is_refused "{\"dependencies\":{\"a\":{},\"b\":5}}" ("5 is not of types \"boolean\", \"object\" @ \"\", /dependencies/b" ∷ [])
  pub the_second_list_of_dependencies_is_checked : Is_refused "{\"dependencies\":{\"a\":[],\"b\":[5]}}" ("5 is not of type \"string\" @ \"\", /dependencies" ∷ [])
  pub the_second_entry_of_property_dependencies_is_checked : Is_refused "{\"propertyDependencies\":{\"a\":{},\"b\":5}}" ("5 is not of type \"object\" @ \"\", /propertyDependencies/b" ∷ [])
  pub the_second_entry_of_property_dependencies_is_read : Is_refused "{\"propertyDependencies\":{\"a\":{},\"b\":{\"x\":5}}}" ("5 is not of types \"boolean\", \"object\" @ \"\", /propertyDependencies/b/x" ∷ [])
  pub each_refused_pattern_is_told : Is_refused "{\"patternProperties\":{\"a(\":{},\"b(\":{}}}" ("\"a(\" is not a \"regex\" @ \"\", /patternProperties/a(" ∷ "\"b(\" is not a \"regex\" @ \"\", /patternProperties/b(" ∷ [])
  pub each_entry_that_is_no_list_is_told : Is_refused "{\"dependentRequired\":{\"a\":5,\"b\":5}}" ("5 is not of type \"array\" @ \"\", /dependentRequired/a" ∷ "5 is not of type \"array\" @ \"\", /dependentRequired/b" ∷ [])
  pub the_first_item_of_each_list_of_dependencies_is_told : Is_refused "{\"dependencies\":{\"a\":[5,7],\"b\":[6]}}" ("5 is not of type \"string\" @ \"\", /dependencies" ∷ "6 is not of type \"string\" @ \"\", /dependencies" ∷ [])
  pub each_entry_of_property_dependencies_is_told : Is_refused "{\"propertyDependencies\":{\"a\":5,\"b\":6}}" ("5 is not of type \"object\" @ \"\", /propertyDependencies/a" ∷ "6 is not of type \"object\" @ \"\", /propertyDependencies/b" ∷ [])
  pub each_keyword_and_place_is_told_and_what_is_inside : Is_refused "{\"allOf\":[5,6],\"anyOf\":7,\"patternProperties\":{\"(\":{\"$ref\":1}}}" ("\"$ref\" is not supported here @ \"\", /patternProperties/(/$ref" ∷ "\"(\" is not a \"regex\" @ \"\", /patternProperties/(" ∷ "5 is not of types \"boolean\", \"object\" @ \"\", /allOf/0" ∷ "6 is not of types \"boolean\", \"object\" @ \"\", /allOf/1" ∷ "7 is not of type \"array\" @ \"\", /anyOf" ∷ [])
  pub no_keyword_is_a_leaf_whatever_the_leaves_read : Is_always_refused "{\"propertyNames\":{\"not\":5},\"$ref\":5,\"$dynamicRef\":5,\"$recursiveRef\":5,\"unevaluatedProperties\":5,\"unevaluatedItems\":5,\"properties\":5,\"patternProperties\":5,\"dependentRequired\":5,\"dependentSchemas\":5,\"dependencies\":5,\"propertyDependencies\":5,\"required\":5,\"allOf\":5,\"anyOf\":5,\"oneOf\":5,\"additionalProperties\":5,\"not\":5,\"if\":5,\"then\":5,\"else\":5}" ("\"$dynamicRef\" is not supported here @ \"\", /$dynamicRef" ∷ "\"$recursiveRef\" is not supported here @ \"\", /$recursiveRef" ∷ "\"$ref\" is not supported here @ \"\", /$ref" ∷ "\"unevaluatedItems\" is not supported here @ \"\", /unevaluatedItems" ∷ "\"unevaluatedProperties\" is not supported here @ \"\", /unevaluatedProperties" ∷ "5 is not of type \"array\" @ \"\", /allOf" ∷ "5 is not of type \"array\" @ \"\", /anyOf" ∷ "5 is not of type \"array\" @ \"\", /oneOf" ∷ "5 is not of type \"array\" @ \"\", /required" ∷ "5 is not of type \"object\" @ \"\", /dependencies" ∷ "5 is not of type \"object\" @ \"\", /dependentRequired" ∷ "5 is not of type \"object\" @ \"\", /dependentSchemas" ∷ "5 is not of type \"object\" @ \"\", /patternProperties" ∷ "5 is not of type \"object\" @ \"\", /properties" ∷ "5 is not of type \"object\" @ \"\", /propertyDependencies" ∷ "5 is not of types \"boolean\", \"object\" @ \"\", /additionalProperties" ∷ "5 is not of types \"boolean\", \"object\" @ \"\", /else" ∷ "5 is not of types \"boolean\", \"object\" @ \"\", /if" ∷ "5 is not of types \"boolean\", \"object\" @ \"\", /not" ∷ "5 is not of types \"boolean\", \"object\" @ \"\", /propertyNames/not" ∷ "5 is not of types \"boolean\", \"object\" @ \"\", /then" ∷ [])
  pub each_keyword_refuses_each_other_kind : Are_refused_at "" "" "" of_another_kind
  pub at_the_root : Are_refused_at "" "" "" wrong_inside
  pub in_properties : Are_refused_at "/properties/n" "{\"properties\":{\"n\":" "}}" wrong_inside
  pub no_schema_in_properties : Are_refused_at "/properties/n" "{\"properties\":{\"n\":" "}}" no_schema
  pub in_pattern_properties : Are_refused_at "/patternProperties/n" "{\"patternProperties\":{\"n\":" "}}" wrong_inside
  pub no_schema_in_pattern_properties : Are_refused_at "/patternProperties/n" "{\"patternProperties\":{\"n\":" "}}" no_schema
  pub in_additional_properties : Are_refused_at "/additionalProperties" "{\"additionalProperties\":" "}" wrong_inside
  pub no_schema_in_additional_properties : Are_refused_at "/additionalProperties" "{\"additionalProperties\":" "}" no_schema
  pub in_property_names : Are_refused_at "/propertyNames" "{\"propertyNames\":" "}" wrong_inside
  pub in_dependent_schemas : Are_refused_at "/dependentSchemas/n" "{\"dependentSchemas\":{\"n\":" "}}" wrong_inside
  pub no_schema_in_dependent_schemas : Are_refused_at "/dependentSchemas/n" "{\"dependentSchemas\":{\"n\":" "}}" no_schema
  pub in_dependencies : Are_refused_at "/dependencies/n" "{\"dependencies\":{\"n\":" "}}" wrong_inside
  pub no_schema_in_dependencies : Are_refused_at "/dependencies/n" "{\"dependencies\":{\"n\":" "}}" no_schema_and_no_list
  pub in_property_dependencies : Are_refused_at "/propertyDependencies/n/t" "{\"propertyDependencies\":{\"n\":{\"t\":" "}}}" wrong_inside
  pub no_schema_in_property_dependencies : Are_refused_at "/propertyDependencies/n/t" "{\"propertyDependencies\":{\"n\":{\"t\":" "}}}" no_schema
  pub in_all_of : Are_refused_at "/allOf/0" "{\"allOf\":[" "]}" wrong_inside
  pub no_schema_in_all_of : Are_refused_at "/allOf/0" "{\"allOf\":[" "]}" no_schema
  pub in_any_of : Are_refused_at "/anyOf/1" "{\"anyOf\":[true," "]}" wrong_inside
  pub no_schema_in_any_of : Are_refused_at "/anyOf/1" "{\"anyOf\":[true," "]}" no_schema
  pub in_one_of : Are_refused_at "/oneOf/0" "{\"oneOf\":[" "]}" wrong_inside
  pub no_schema_in_one_of : Are_refused_at "/oneOf/0" "{\"oneOf\":[" "]}" no_schema
  pub in_not : Are_refused_at "/not" "{\"not\":" "}" wrong_inside
  pub no_schema_in_not : Are_refused_at "/not" "{\"not\":" "}" no_schema
  pub in_if : Are_refused_at "/if" "{\"if\":" ",\"then\":{}}" wrong_inside
  pub no_schema_in_if : Are_refused_at "/if" "{\"if\":" ",\"then\":{}}" no_schema
  pub in_then : Are_refused_at "/then" "{\"if\":{},\"then\":" "}" wrong_inside
  pub no_schema_in_then : Are_refused_at "/then" "{\"if\":{},\"then\":" "}" no_schema
  pub in_else : Are_refused_at "/else" "{\"if\":{},\"else\":" "}" wrong_inside
  pub no_schema_in_else : Are_refused_at "/else" "{\"if\":{},\"else\":" "}" no_schema
  pub each_keyword_builds_of_nothing : All_build ("{\"properties\":{}}" ∷ "{\"patternProperties\":{}}" ∷ "{\"dependentRequired\":{}}" ∷ "{\"dependentSchemas\":{}}" ∷ "{\"dependencies\":{}}" ∷ "{\"propertyDependencies\":{}}" ∷ "{\"additionalProperties\":{}}" ∷ "{\"not\":{}}" ∷ "{\"if\":{}}" ∷ "{\"then\":{}}" ∷ "{\"else\":{}}" ∷ "{\"propertyNames\":{}}" ∷ "{\"required\":[]}" ∷ "{\"allOf\":[]}" ∷ "{\"anyOf\":[]}" ∷ "{\"oneOf\":[]}" ∷ "{\"dependentRequired\":{\"a\":[]}}" ∷ "{\"dependencies\":{\"a\":[]}}" ∷ "true" ∷ "false" ∷ "{}" ∷ [])
  pub truth_values_build : All_build ("{\"additionalProperties\":true}" ∷ "{\"additionalProperties\":false}" ∷ "{\"not\":true}" ∷ "{\"not\":false}" ∷ "{\"if\":true}" ∷ "{\"if\":false}" ∷ "{\"then\":true}" ∷ "{\"then\":false}" ∷ "{\"else\":true}" ∷ "{\"else\":false}" ∷ "{\"propertyNames\":true}" ∷ "{\"propertyNames\":false}" ∷ [])
  pub repeats_build : All_build ("{\"required\":[\"a\",\"a\"]}" ∷ "{\"allOf\":[true,true]}" ∷ "{\"anyOf\":[true,true]}" ∷ "{\"oneOf\":[true,true]}" ∷ [])
  pub ignored_names_build_of_anything : All_build ("{\"$schema\":\"x\"}" ∷ "{\"$schema\":{}}" ∷ "{\"$id\":\"x\"}" ∷ "{\"$id\":{}}" ∷ "{\"$defs\":\"x\"}" ∷ "{\"$defs\":{}}" ∷ "{\"items\":\"x\"}" ∷ "{\"items\":{}}" ∷ [])
  pub a_condition_alone_builds : Builds "{\"if\":5}"
  pub an_ignored_keyword_holds_no_schema : Builds "{\"x\":{\"$ref\":1}}"
  pub names_that_are_neither_false_nor_an_object_build : Builds "{\"propertyNames\":5}"
  pub null_for_names_builds : Builds "{\"propertyNames\":null}"
  pub a_test_that_the_matcher_refuses_builds : Builds "{\"patternProperties\":{\"^(a|b)$\":{}}}"
  pub else_alone_builds : Builds "{\"else\":5}"
  pub a_dependency_may_list_a_name_twice : Builds "{\"dependencies\":{\"a\":[\"b\",\"b\"]}}"
