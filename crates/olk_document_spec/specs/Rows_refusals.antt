-- Malformed documents.
use Rattle.std.specs.Prelude.{◌∷◌, []}
use Rattle.olk_document_spec.specs.Answers.{Builds, Is_refused}

pub record Rows_refusals : Type 0 where
  pub each_keyword_builds : Builds "{\"prefixItems\":[true,{}],\"items\":{},\"contains\":false,\"minContains\":0,\"maxContains\":3,\"$ref\":\"#/$defs/a\",\"$defs\":{\"a\":{\"$ref\":\"#/$defs/b\"},\"b\":true}}"
  pub bounds_alone_build : Builds "{\"minContains\":0,\"maxContains\":0}"
  pub what_is_not_read_builds : Builds "{\"$defs\":{\"a\":{\"$ref\":5,\"items\":5}},\"const\":\"a\"}"
  pub a_member_of_that_name_builds : Builds "{\"properties\":{\"$ref\":{\"type\":\"string\"}}}"
  pub as_many_as_may_be_build : Builds "{\"$ref\":\"#/$defs/1\",\"$defs\":{\"1\":{\"$ref\":\"#/$defs/2\"},\"2\":{\"$ref\":\"#/$defs/3\"},\"3\":{\"$ref\":\"#/$defs/4\"},\"4\":{\"$ref\":\"#/$defs/5\"},\"5\":{\"$ref\":\"#/$defs/6\"},\"6\":{\"$ref\":\"#/$defs/7\"},\"7\":{\"$ref\":\"#/$defs/8\"},\"8\":{\"$ref\":\"#/$defs/9\"},\"9\":{\"$ref\":\"#/$defs/10\"},\"10\":{\"$ref\":\"#/$defs/11\"},\"11\":{\"$ref\":\"#/$defs/12\"},\"12\":{\"$ref\":\"#/$defs/13\"},\"13\":{\"$ref\":\"#/$defs/14\"},\"14\":{\"$ref\":\"#/$defs/15\"},\"15\":{\"$ref\":\"#/$defs/16\"},\"16\":true}}"
  pub one_place_twice_builds : Builds "{\"prefixItems\":[{\"$ref\":\"#/$defs/a\"},{\"$ref\":\"#/$defs/a\"}],\"$defs\":{\"a\":{}}}"
  pub prefix_items_are_a_list : Is_refused "{\"prefixItems\":{}}" ("{} is not of type \"array\" @ \"\", /prefixItems" ∷ [])
  pub prefix_items_are_schemas : Is_refused "{\"prefixItems\":[1,true,2]}" ("1 is not of types \"boolean\", \"object\" @ \"\", /prefixItems/0" ∷ "2 is not of types \"boolean\", \"object\" @ \"\", /prefixItems/2" ∷ [])
  pub items_is_a_schema : Is_refused "{\"items\":[true]}" ("[true] is not of types \"boolean\", \"object\" @ \"\", /items" ∷ [])
  pub contains_is_a_schema : Is_refused "{\"contains\":5}" ("5 is not of types \"boolean\", \"object\" @ \"\", /contains" ∷ [])
  pub what_stands_inside_is_read : Is_refused "{\"items\":{\"contains\":{\"required\":5}}}" ("5 is not of type \"array\" @ \"\", /items/contains/required" ∷ [])
  pub a_least_bound_is_whole : Is_refused "{\"minContains\":-1}" ("-1 is not a value for \"minContains\" @ \"\", /minContains" ∷ [])
  pub a_most_bound_is_whole : Is_refused "{\"maxContains\":\"1\"}" ("\"1\" is not a value for \"maxContains\" @ \"\", /maxContains" ∷ [])
  pub a_reference_is_a_text : Is_refused "{\"$ref\":5}" ("5 is not of type \"string\" @ \"\", /$ref" ∷ [])
  pub a_reference_names_a_place : Is_refused "{\"$ref\":\"#/$defs/a\"}" ("\"$ref\" is not supported here @ \"\", /$ref" ∷ [])
  pub an_anchor_names_no_place : Is_refused "{\"items\":{\"$ref\":\"#a\"},\"$defs\":{\"a\":{\"$anchor\":\"a\"}}}" ("\"$ref\" is not supported here @ \"\", /items/$ref" ∷ [])
  pub another_document_is_not_read : Is_refused "{\"$ref\":\"other.json\"}" ("\"$ref\" is not supported here @ \"\", /$ref" ∷ [])
  pub a_percent_sign_is_not_read : Is_refused "{\"$ref\":\"#/a%25b\",\"a%b\":true}" ("\"$ref\" is not supported here @ \"\", /$ref" ∷ [])
  pub a_tilde_is_followed_by_a_digit : Is_refused "{\"$ref\":\"#/a~2\",\"a~2\":true}" ("\"$ref\" is not supported here @ \"\", /$ref" ∷ [])
  pub a_pointer_begins_with_a_slash : Is_refused "{\"$ref\":\"#$defs\",\"$defs\":true}" ("\"$ref\" is not supported here @ \"\", /$ref" ∷ [])
  pub a_reference_leads_to_itself : Is_refused "{\"$ref\":\"#/$defs/a\",\"$defs\":{\"a\":{\"$ref\":\"#/$defs/a\"}}}" ("\"$ref\" is not supported here @ \"\", /$defs/a/$ref" ∷ [])
  pub one_more_than_may_be : Is_refused "{\"$ref\":\"#/$defs/1\",\"$defs\":{\"1\":{\"$ref\":\"#/$defs/2\"},\"2\":{\"$ref\":\"#/$defs/3\"},\"3\":{\"$ref\":\"#/$defs/4\"},\"4\":{\"$ref\":\"#/$defs/5\"},\"5\":{\"$ref\":\"#/$defs/6\"},\"6\":{\"$ref\":\"#/$defs/7\"},\"7\":{\"$ref\":\"#/$defs/8\"},\"8\":{\"$ref\":\"#/$defs/9\"},\"9\":{\"$ref\":\"#/$defs/10\"},\"10\":{\"$ref\":\"#/$defs/11\"},\"11\":{\"$ref\":\"#/$defs/12\"},\"12\":{\"$ref\":\"#/$defs/13\"},\"13\":{\"$ref\":\"#/$defs/14\"},\"14\":{\"$ref\":\"#/$defs/15\"},\"15\":{\"$ref\":\"#/$defs/16\"},\"16\":{\"$ref\":\"#/$defs/17\"},\"17\":true}}" ("\"$ref\" is not supported here @ \"\", /$defs/16/$ref" ∷ [])
  pub the_root_leads_back_to_itself : Is_refused "{\"properties\":{\"foo\":{\"$ref\":\"#\"}},\"additionalProperties\":false}" ("\"$ref\" is not supported here @ \"\", /properties/foo/$ref" ∷ [])
  pub two_lead_to_each_other : Is_refused "{\"$ref\":\"#/$defs/a\",\"$defs\":{\"a\":{\"items\":{\"$ref\":\"#/$defs/b\"}},\"b\":{\"items\":{\"$ref\":\"#/$defs/a\"}}}}" ("\"$ref\" is not supported here @ \"\", /$defs/b/items/$ref" ∷ [])
  pub what_is_named_is_read : Is_refused "{\"$ref\":\"#/$defs/a\",\"$defs\":{\"a\":{\"required\":5}}}" ("5 is not of type \"array\" @ \"\", /$defs/a/required" ∷ [])
  pub what_is_named_is_a_schema : Is_refused "{\"$ref\":\"#/$defs\",\"$defs\":[1]}" ("[1] is not of types \"boolean\", \"object\" @ \"\", /$defs" ∷ [])
