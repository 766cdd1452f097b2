-- Faults and malformations with their kinds and instances, and the contexts of `oneOf`.
use Rattle.std.specs.Prelude.{◌∷◌, []}
use Prim.Native.String.{String as Quoted}
use Rattle.olk_spec.specs.Answers.{Fails, Cuts_to}
use Rattle.olk_spec.specs.Forms.{Tells, Is_refused_as, Promises_its_text, Promises_no_text, Promises_its_refusal, All_promise_their_texts, All_promise_their_refusals, None_promises_its_refusal, Has_keywords, Keeps, Leaf_is_refused_as}

abbrev pub one_of_false : Quoted
one_of_false = "{\"oneOf\":[false]}"

abbrev pub one_of_three : Quoted
one_of_three = "{\"oneOf\":[true,true,false]}"

abbrev pub closed : Quoted
closed = "{\"properties\":{},\"additionalProperties\":false}"

pub record Rows_faults : Type 0 where
  pub where_no_branch_accepts_each_tells_what_it_finds : Fails one_of_false "1" ("1 is not valid under any of the schemas listed in the 'oneOf' keyword @ \"\", /oneOf [{False schema does not allow 1 @ \"\", /oneOf/0;}]" ∷ [])
  pub where_too_many_accept_each_tells_what_it_finds : Fails one_of_three "1" ("1 is valid under more than one of the schemas listed in the 'oneOf' keyword @ \"\", /oneOf [{}{}{False schema does not allow 1 @ \"\", /oneOf/2;}]" ∷ [])
  pub the_first_of_two_unexpected_names_is_kept : Cuts_to closed "{\"a\":1,\"b\":2}" ("Additional properties are not allowed ('a' was unexpected) @ \"\", /additionalProperties" ∷ [])
  pub beside_patterns_names_are_told : Fails "{\"patternProperties\":{},\"additionalProperties\":false}" "{\"a\":1}" ("Additional properties are not allowed ('a' was unexpected) @ \"\", /additionalProperties" ∷ [])
  pub faults_have_the_keywords_of_their_kinds : Has_keywords "{\"additionalProperties\":false,\"allOf\":[false,{\"oneOf\":[true,true]}],\"anyOf\":[],\"not\":true,\"oneOf\":[],\"properties\":{},\"propertyNames\":{\"maxLength\":0},\"required\":[\"b\"],\"type\":\"null\"}" "{\"a\":1}" ("additionalProperties" ∷ "anyOf" ∷ "falseSchema" ∷ "not" ∷ "oneOf" ∷ "oneOf" ∷ "propertyNames" ∷ "required" ∷ "type" ∷ [])
  pub a_choice_in_a_member_is_kept_with_its_branches : Cuts_to "{\"properties\":{\"a\":{\"anyOf\":[false]}}}" "{\"a\":1}" ("1 is not valid under any of the schemas listed in the 'anyOf' keyword @ /a, /properties/a/anyOf [{False schema does not allow 1 @ /a, /properties/a/anyOf/0;}]" ∷ [])
  pub no_accepting_branch_is_kept_with_its_branches : Cuts_to one_of_false "1" ("1 is not valid under any of the schemas listed in the 'oneOf' keyword @ \"\", /oneOf [{False schema does not allow 1 @ \"\", /oneOf/0;}]" ∷ [])
  pub too_many_accepting_branches_are_kept : Cuts_to one_of_three "1" ("1 is valid under more than one of the schemas listed in the 'oneOf' keyword @ \"\", /oneOf [{}{}{False schema does not allow 1 @ \"\", /oneOf/2;}]" ∷ [])
  pub a_name_is_kept_with_the_fault_inside : Keeps "{\"propertyNames\":{\"maxLength\":0}}" "{\"a\":1}" ("PropertyNames of {\"a\":1} @ \"\", /propertyNames/maxLength {Leaf of \"a\" @ \"\", /propertyNames/maxLength}" ∷ [])
  pub no_accepting_branch : Tells one_of_false "1" ("OneOfNotValid of 1 @ \"\", /oneOf" ∷ [])
  pub too_many_accepting_branches : Tells one_of_three "1" ("OneOfMultipleValid of 1 @ \"\", /oneOf" ∷ [])
  pub no_choice : Tells "{\"anyOf\":[false]}" "1" ("AnyOf of 1 @ \"\", /anyOf" ∷ [])
  pub a_negation : Tells "{\"not\":true}" "1" ("Not of 1 @ \"\", /not" ∷ [])
  pub a_name_keeps_the_fault_inside : Tells "{\"propertyNames\":{\"minLength\":1}}" "{\"\":1}" ("PropertyNames of {\"\":1} @ \"\", /propertyNames/minLength {Leaf of \"\" @ \"\", /propertyNames/minLength}" ∷ [])
  pub a_fault_inside_is_of_the_name : Tells "{\"propertyNames\":{\"not\":true}}" "{\"a\":1}" ("PropertyNames of {\"a\":1} @ \"\", /propertyNames/not {Not of \"a\" @ \"\", /propertyNames/not}" ∷ [])
  pub names_that_are_refused_are_told_of_the_object : Tells "{\"propertyNames\":false}" "{\"a\":1}" ("FalseSchema of {\"a\":1} @ \"\", /propertyNames" ∷ [])
  pub alone_it_is_told_at_the_object : Tells "{\"additionalProperties\":false}" "{\"a\":1}" ("FalseSchema of 1 @ \"\", /additionalProperties" ∷ [])
  pub a_false_member : Tells "{\"properties\":{\"a\":false}}" "{\"a\":1}" ("FalseSchema of 1 @ /a, /properties/a" ∷ [])
  pub an_unexpected_name_beside_patterns : Tells "{\"patternProperties\":{},\"additionalProperties\":false}" "{\"a\":1}" ("AdditionalProperties of {\"a\":1} @ \"\", /additionalProperties" ∷ [])
  pub two_unexpected_names_are_one_fault : Tells closed "{\"a\":1,\"b\":2}" ("AdditionalProperties of {\"a\":1,\"b\":2} @ \"\", /additionalProperties" ∷ [])
  pub a_dependent_name_is_told_at_the_keyword : Tells "{\"dependentRequired\":{\"a\":[\"b\"]}}" "{\"a\":1}" ("Required of {\"a\":1} @ \"\", /dependentRequired" ∷ [])
  pub a_name_of_a_dependency_is_told_at_the_keyword : Tells "{\"dependencies\":{\"a\":[\"b\"]}}" "{\"a\":1}" ("Required of {\"a\":1} @ \"\", /dependencies" ∷ [])
  pub a_required_name_is_told_of_the_object : Tells "{\"required\":[\"a\"]}" "{}" ("Required of {} @ \"\", /required" ∷ [])
  pub a_leaf_is_told_of_the_value : Tells "{\"minimum\":5}" "1" ("Leaf of 1 @ \"\", /minimum" ∷ [])
  pub a_name_that_is_refused : Is_refused_as "{\"$ref\":1}" ("Unsupported of 1 @ \"\", /$ref" ∷ [])
  pub an_item_that_is_no_text : Is_refused_as "{\"required\":[1,2]}" ("SingleType of 1 @ \"\", /required" ∷ [])
  pub a_repeated_text : Is_refused_as "{\"dependentRequired\":{\"a\":[\"b\",\"c\",\"b\"]}}" ("UniqueItems of [\"b\",\"c\",\"b\"] @ \"\", /dependentRequired/a" ∷ [])
  pub a_pattern_that_is_refused : Is_refused_as "{\"patternProperties\":{\"a(\":{}}}" ("Regex of \"a(\" @ \"\", /patternProperties/a(" ∷ [])
  pub a_value_that_a_leaf_refuses : Is_refused_as "{\"type\":5}" ("LeafRefused of 5 @ \"\", /type" ∷ [])
  pub a_value_that_is_no_schema : Is_refused_as "{\"not\":5}" ("MultipleTypes of 5 @ \"\", /not" ∷ [])
  pub declared_names_in_a_list : Is_refused_as "{\"properties\":[]}" ("SingleType of [] @ \"\", /properties" ∷ [])
  pub a_choice_over_a_whole_number_promises_its_text : Promises_its_text "{\"anyOf\":[false]}" "1"
  pub a_choice_over_a_fraction_promises_no_text : Promises_no_text "{\"anyOf\":[false]}" "1.5"
  pub no_accepting_branch_over_a_fraction_promises_no_text : Promises_no_text one_of_false "1.5"
  pub too_many_accepting_branches_over_a_fraction_promise_no_text : Promises_no_text one_of_three "1.5"
  pub a_negation_over_a_fraction_promises_no_text : Promises_no_text "{\"not\":true}" "1.5"
  pub a_false_schema_over_a_fraction_promises_no_text : Promises_no_text "false" "1.5"
  pub a_name_of_an_object_with_a_fraction_promises_its_text : Promises_its_text "{\"propertyNames\":{\"not\":true}}" "{\"a\":1.5}"
  pub a_name_whose_own_fault_prints_a_fraction_promises_no_text : Promises_no_text "{\"propertyNames\":{\"not\":{\"title\":1.5}}}" "{\"a\":1}"
  pub a_refused_name_with_a_fraction_promises_its_text : Promises_its_refusal "{\"$ref\":1.5}"
  pub over_whole_numbers_each_kind_promises_its_text : All_promise_their_texts ((one_of_false, "1") ∷ (one_of_three, "1") ∷ ("{\"not\":true}", "1") ∷ ("false", "1") ∷ ("{\"minimum\":5}", "1") ∷ (closed, "{\"a\":1}") ∷ ("{\"required\":[\"a\"]}", "{}") ∷ [])
  pub over_a_fraction_names_and_leaves_promise_their_texts : All_promise_their_texts (("{\"type\":\"object\"}", "1.5") ∷ (closed, "{\"a\":1.5}") ∷ ("{\"required\":[\"a\"]}", "{\"b\":1.5}") ∷ ("{\"dependentRequired\":{\"b\":[\"a\"]}}", "{\"b\":1.5}") ∷ [])
  pub refusals_without_a_fraction_promise_their_texts : All_promise_their_refusals ("{\"properties\":5}" ∷ "{\"not\":5}" ∷ "{\"dependentRequired\":{\"a\":[\"b\",\"b\"]}}" ∷ "{\"patternProperties\":{\"(\":{}}}" ∷ "{\"type\":5}" ∷ "{\"$ref\":1}" ∷ [])
  pub refusals_that_print_a_fraction_promise_no_text : None_promises_its_refusal ("{\"properties\":1.5}" ∷ "{\"not\":1.5}" ∷ "{\"dependentRequired\":{\"a\":[\"b\",\"b\",1.5]}}" ∷ "{\"type\":1.5}" ∷ "{\"required\":[1.5]}" ∷ [])
  pub the_name_of_a_leaf_is_told_as_json : Leaf_is_refused_as "a\"b" "5" "5 is not a value for \"a\\\"b\""
