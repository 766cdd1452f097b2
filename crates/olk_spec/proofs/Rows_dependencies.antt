use Rattle.std.proofs.Common.{refl}
use Rattle.olk_spec.proofs.Computed.{computed}
use Rattle.olk_spec.specs.Rows_dependencies.{Rows_dependencies}

pub rows_dependencies : Rows_dependencies
unfolding computed
rows_dependencies = record {
  a_name_listed_twice_is_told_twice = λ u. (refl, refl, refl);
  a_dependent_schema_is_asked_of_the_object = λ u. (refl, refl, refl);
  a_short_name_is_told_of_the_object = λ u. (refl, refl, refl);
  its_instance_is_the_object = λ u. refl;
  each_short_name_is_told = λ u. (refl, refl, refl);
  all_faults_of_a_name_are_told = λ u. (refl, refl, refl);
  inside_a_member_a_long_name_is_told_there = λ u. (refl, refl, refl);
  inside_a_member_a_dependent_name_is_told_there = λ u. (refl, refl, refl);
  no_name_is_allowed = λ u. (refl, refl, refl);
  two_names_that_are_not_allowed_are_one_fault = λ u. (refl, refl, refl);
  true_allows_each_name = λ u. (refl, refl, refl);
  a_list_is_of_its_key_alone = λ u. (refl, refl, refl);
  a_list_of_a_dependency_is_of_its_key_alone = λ u. (refl, refl, refl);
  a_dependent_schema_is_of_its_key_alone = λ u. (refl, refl, refl);
  a_schema_is_of_its_key_alone = λ u. (refl, refl, refl);
  no_names_are_none_refused = λ u. (refl, refl, refl);
  a_name_is_no_object = λ u. (refl, refl, refl);
  a_text_chooses_its_schema = λ u. (refl, refl, refl);
  a_text_chooses_a_false_schema = λ u. (refl, refl, refl);
  another_text_chooses_none = λ u. (refl, refl, refl);
  a_number_chooses_none = λ u. (refl, refl, refl);
  an_absent_member_chooses_none = λ u. (refl, refl, refl);
  another_value_chooses_none = λ u. (refl, refl, refl);
  null_is_not_the_text_null = λ u. (refl, refl, refl);
  a_number_is_not_the_text_of_its_digits = λ u. (refl, refl, refl);
  a_list_of_one_text_chooses_none = λ u. (refl, refl, refl);
  true_is_not_the_text_true = λ u. (refl, refl, refl);
  a_name_that_two_keys_want_is_told_twice = λ u. (refl, refl, refl);
  a_declared_name_meets_the_schema_of_names = λ u. (refl, refl, refl);
  the_second_key_chooses_too = λ u. (refl, refl, refl);
  the_empty_text_chooses_too = λ u. (refl, refl, refl);
}
