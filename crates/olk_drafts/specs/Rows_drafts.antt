-- Schemas of older drafts, and what they are as schemas of 2020-12.
use Rattle.std.specs.Prelude.{◌≡◌}
use Prim.Native.String.{String as Quoted}
use Rattle.olk_spec.specs.Json.{json}
use Rattle.olk_drafts.specs.Translated.{translated}
use Rattle.olk_drafts.specs.declared.drafts.Draft.{Draft}
use Rattle.olk_drafts.specs.declared.drafts.Draft.TheVariants.{Draft4, Draft6, Draft7, Draft201909, Draft202012}

-- references stay as they are
abbrev pub Is : Draft → Quoted → Quoted → Type 0
Is draft S T = translated draft (λ t. t) (json S) ≡ json T

pub record Rows_drafts : Type 0 where
  pub a_list_of_items_is_prefix_items : Is Draft7 "{\"additionalItems\":false,\"items\":[{\"type\":\"integer\"},true]}" "{\"items\":false,\"prefixItems\":[{\"type\":\"integer\"},true]}"
  pub a_list_inside_is_one_too : Is Draft201909 "{\"properties\":{\"a\":{\"items\":[{\"items\":[]}]}}}" "{\"properties\":{\"a\":{\"prefixItems\":[{\"prefixItems\":[]}]}}}"
  pub additional_items_say_nothing_beside_a_schema : Is Draft6 "{\"additionalItems\":false,\"items\":{}}" "{\"items\":{}}"
  pub today_a_list_of_items_stays : Is Draft202012 "{\"additionalItems\":false,\"items\":[true]}" "{\"additionalItems\":false,\"items\":[true]}"
  pub keywords_beside_a_reference_say_nothing : Is Draft7 "{\"$ref\":\"#/definitions/a\",\"definitions\":{\"a\":{\"items\":[true]}},\"maxItems\":2,\"x\":1}" "{\"$ref\":\"#/definitions/a\",\"definitions\":{\"a\":{\"prefixItems\":[true]}},\"x\":1}"
  pub from_2019_on_they_are_read : Is Draft201909 "{\"$ref\":\"#/$defs/a\",\"maxItems\":2}" "{\"$ref\":\"#/$defs/a\",\"maxItems\":2}"
  pub a_property_of_that_name_is_no_reference : Is Draft4 "{\"maxProperties\":2,\"properties\":{\"$ref\":{\"type\":\"string\"}}}" "{\"maxProperties\":2,\"properties\":{\"$ref\":{\"type\":\"string\"}}}"
  pub a_minimum_may_be_excluded : Is Draft4 "{\"exclusiveMinimum\":true,\"minimum\":3}" "{\"exclusiveMinimum\":3}"
  pub a_maximum_may_be_included : Is Draft4 "{\"exclusiveMaximum\":false,\"maximum\":3}" "{\"maximum\":3}"
  pub a_truth_value_alone_says_nothing : Is Draft4 "{\"exclusiveMaximum\":true}" "{}"
  pub in_draft_6_both_are_bounds : Is Draft6 "{\"exclusiveMinimum\":2,\"minimum\":3}" "{\"exclusiveMinimum\":2,\"minimum\":3}"
  pub an_id_is_renamed : Is Draft4 "{\"id\":\"http://a.example/s\"}" "{\"$id\":\"http://a.example/s\"}"
  pub draft_4_has_no_const : Is Draft4 "{\"const\":1,\"contains\":{},\"if\":true,\"propertyNames\":{},\"type\":\"integer\"}" "{\"type\":\"integer of draft 4\"}"
  pub draft_6_has_no_condition : Is Draft6 "{\"const\":1,\"if\":true,\"then\":false}" "{\"const\":1}"
  pub draft_7_has_no_dependent_schemas : Is Draft7 "{\"dependentSchemas\":{\"a\":false},\"else\":false,\"minContains\":1}" "{\"else\":false}"
  pub prefix_items_came_last : Is Draft201909 "{\"dependentSchemas\":{\"a\":false},\"prefixItems\":[false]}" "{\"dependentSchemas\":{\"a\":false}}"
  pub what_is_no_schema_stays : Is Draft7 "{\"const\":{\"items\":[1]},\"default\":{\"items\":[1]},\"dependencies\":{\"a\":[\"items\"]},\"enum\":[{\"items\":[1]}],\"examples\":[{\"items\":[1]}]}" "{\"const\":{\"items\":[1]},\"default\":{\"items\":[1]},\"dependencies\":{\"a\":[\"items\"]},\"enum\":[{\"items\":[1]}],\"examples\":[{\"items\":[1]}]}"
  pub and_so_do_names_that_are_required : Is Draft201909 "{\"dependentRequired\":{\"items\":[\"a\"]}}" "{\"dependentRequired\":{\"items\":[\"a\"]}}"
  pub a_name_of_no_keyword_may_hold_a_schema : Is Draft7 "{\"x\":{\"y\":{\"items\":[true]}}}" "{\"x\":{\"y\":{\"prefixItems\":[true]}}}"
  pub entries_of_entries_are_schemas : Is Draft7 "{\"propertyDependencies\":{\"a\":{\"b\":{\"items\":[]}}}}" "{\"propertyDependencies\":{\"a\":{\"b\":{\"prefixItems\":[]}}}}"
  pub branches_are_schemas : Is Draft4 "{\"allOf\":[{\"items\":[]}],\"not\":{\"items\":[]}}" "{\"allOf\":[{\"prefixItems\":[]}],\"not\":{\"prefixItems\":[]}}"
  pub draft_4_has_integers_of_its_own : Is Draft4 "{\"type\":\"integer\"}" "{\"type\":\"integer of draft 4\"}"
  pub and_so_has_a_list_of_kinds : Is Draft4 "{\"type\":[\"integer\",\"null\",\"number\"]}" "{\"type\":[\"integer of draft 4\",\"null\",\"number\"]}"
  pub inside_it_they_are_its_own_too : Is Draft4 "{\"items\":[{\"type\":\"integer\"}]}" "{\"prefixItems\":[{\"type\":\"integer of draft 4\"}]}"
  pub other_kinds_stay : Is Draft4 "{\"type\":\"number\"}" "{\"type\":\"number\"}"
  pub a_property_of_that_name_is_no_kind : Is Draft4 "{\"dependencies\":{\"type\":[\"integer\"]},\"properties\":{\"type\":{\"type\":\"integer\"}}}" "{\"dependencies\":{\"type\":[\"integer\"]},\"properties\":{\"type\":{\"type\":\"integer of draft 4\"}}}"
  pub data_is_no_kind : Is Draft4 "{\"default\":{\"type\":\"integer\"},\"enum\":[{\"type\":\"integer\"}]}" "{\"default\":{\"type\":\"integer\"},\"enum\":[{\"type\":\"integer\"}]}"
  pub in_draft_6_integers_are_those_of_today : Is Draft6 "{\"type\":[\"integer\"]}" "{\"type\":[\"integer\"]}"
