-- Dependencies between members, and schemas of member names.
use Rattle.std.specs.Prelude.{◌∷◌, []}
use Prim.Native.String.{String as Quoted}
use Rattle.olk_spec.specs.Answers.{Holds, Fails, Is_about}

abbrev pub by_kind : Quoted
by_kind = "{\"propertyDependencies\":{\"kind\":{\"a\":{\"required\":[\"x\"]},\"b\":false}}}"

pub record Rows_dependencies : Type 0 where
  pub a_name_listed_twice_is_told_twice : Fails "{\"dependencies\":{\"a\":[\"b\",\"b\"]}}" "{\"a\":1}" ("\"b\" is a required property @ \"\", /dependencies" ∷ "\"b\" is a required property @ \"\", /dependencies" ∷ [])
  pub a_dependent_schema_is_asked_of_the_object : Fails "{\"dependentSchemas\":{\"a\":{\"required\":[\"b\"]}}}" "{\"a\":1}" ("\"b\" is a required property @ \"\", /dependentSchemas/a/required" ∷ [])
  pub a_short_name_is_told_of_the_object : Fails "{\"propertyNames\":{\"minLength\":2}}" "{\"f\":1}" ("\"f\" is shorter than 2 characters @ \"\", /propertyNames/minLength" ∷ [])
  pub its_instance_is_the_object : Is_about "{\"propertyNames\":{\"minLength\":2}}" "{\"f\":1}" ("{\"f\":1}" ∷ [])
  pub each_short_name_is_told : Fails "{\"propertyNames\":{\"minLength\":2}}" "{\"a\":1,\"b\":2}" ("\"a\" is shorter than 2 characters @ \"\", /propertyNames/minLength" ∷ "\"b\" is shorter than 2 characters @ \"\", /propertyNames/minLength" ∷ [])
  pub all_faults_of_a_name_are_told : Fails "{\"propertyNames\":{\"minLength\":2,\"const\":\"b\"}}" "{\"a\":1}" ("\"a\" is shorter than 2 characters @ \"\", /propertyNames/minLength" ∷ "\"b\" was expected @ \"\", /propertyNames/const" ∷ [])
  pub inside_a_member_a_long_name_is_told_there : Fails "{\"properties\":{\"a\":{\"propertyNames\":{\"maxLength\":0}}}}" "{\"a\":{\"b\":1}}" ("\"b\" is longer than 0 characters @ /a, /properties/a/propertyNames/maxLength" ∷ [])
  pub inside_a_member_a_dependent_name_is_told_there : Fails "{\"properties\":{\"a\":{\"dependentRequired\":{\"b\":[\"c\"]}}}}" "{\"a\":{\"b\":1}}" ("\"c\" is a required property @ /a, /properties/a/dependentRequired" ∷ [])
  pub no_name_is_allowed : Fails "{\"propertyNames\":false}" "{\"foo\":1}" ("False schema does not allow {\"foo\":1} @ \"\", /propertyNames" ∷ [])
  pub two_names_that_are_not_allowed_are_one_fault : Fails "{\"propertyNames\":false}" "{\"a\":1,\"b\":2}" ("False schema does not allow {\"a\":1,\"b\":2} @ \"\", /propertyNames" ∷ [])
  pub true_allows_each_name : Holds "{\"propertyNames\":true}" "{\"a\":1}"
  pub a_list_is_of_its_key_alone : Holds "{\"dependentRequired\":{\"a\":[\"b\"]}}" "{\"c\":1}"
  pub a_list_of_a_dependency_is_of_its_key_alone : Holds "{\"dependencies\":{\"a\":[\"b\"]}}" "{}"
  pub a_dependent_schema_is_of_its_key_alone : Holds "{\"dependentSchemas\":{\"a\":false}}" "{}"
  pub a_schema_is_of_its_key_alone : Holds "{\"dependencies\":{\"a\":false}}" "{}"
  pub no_names_are_none_refused : Holds "{\"propertyNames\":false}" "{}"
  pub a_name_is_no_object : Holds "{\"propertyNames\":{\"properties\":{\"a\":false}}}" "{\"a\":1}"
  pub a_text_chooses_its_schema : Fails by_kind "{\"kind\":\"a\"}" ("\"x\" is a required property @ \"\", /propertyDependencies/kind/a/required" ∷ [])
  pub a_text_chooses_a_false_schema : Fails by_kind "{\"kind\":\"b\"}" ("False schema does not allow {\"kind\":\"b\"} @ \"\", /propertyDependencies/kind/b" ∷ [])
  pub another_text_chooses_none : Holds by_kind "{\"kind\":\"c\"}"
  pub a_number_chooses_none : Holds by_kind "{\"kind\":1}"
  pub an_absent_member_chooses_none : Holds by_kind "{}"
  pub another_value_chooses_none : Holds by_kind "\"a\""
  pub null_is_not_the_text_null : Holds "{\"propertyDependencies\":{\"k\":{\"null\":false}}}" "{\"k\":null}"
  pub a_number_is_not_the_text_of_its_digits : Holds "{\"propertyDependencies\":{\"k\":{\"1\":false}}}" "{\"k\":1}"
  pub a_list_of_one_text_chooses_none : Holds "{\"propertyDependencies\":{\"k\":{\"a\":false}}}" "{\"k\":[\"a\"]}"
  pub true_is_not_the_text_true : Holds "{\"propertyDependencies\":{\"k\":{\"true\":false}}}" "{\"k\":true}"
  pub a_name_that_two_keys_want_is_told_twice : Fails "{\"dependentRequired\":{\"a\":[\"c\"],\"b\":[\"c\"]}}" "{\"a\":1,\"b\":1}" ("\"c\" is a required property @ \"\", /dependentRequired" ∷ "\"c\" is a required property @ \"\", /dependentRequired" ∷ [])
  pub a_declared_name_meets_the_schema_of_names : Fails "{\"properties\":{\"ab\":{}},\"propertyNames\":{\"maxLength\":1}}" "{\"ab\":1}" ("\"ab\" is longer than 1 characters @ \"\", /propertyNames/maxLength" ∷ [])
  pub the_second_key_chooses_too : Fails "{\"propertyDependencies\":{\"a\":{},\"b\":{\"x\":false}}}" "{\"b\":\"x\"}" ("False schema does not allow {\"b\":\"x\"} @ \"\", /propertyDependencies/b/x" ∷ [])
  pub the_empty_text_chooses_too : Fails "{\"propertyDependencies\":{\"k\":{\"\":false}}}" "{\"k\":\"\"}" ("False schema does not allow {\"k\":\"\"} @ \"\", /propertyDependencies/k/" ∷ [])
