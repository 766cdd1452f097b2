use Rattle.std.proofs.Common.{refl}
use Rattle.olk_spec.proofs.Computed.{computed}
use Rattle.olk_spec.specs.Rows_properties.{Rows_properties}

pub rows_properties : Rows_properties
unfolding computed
rows_properties = record {
  extra_members_are_accepted = λ u. (refl, refl, refl);
  missing_and_wrong_are_both_told = λ u. (refl, refl, refl);
  a_wrong_member_alone_is_told = λ u. (refl, refl, refl);
  names_that_differ_early_are_told_apart = λ u. (refl, refl, refl);
  names_that_differ_in_the_middle_are_told_apart = λ u. (refl, refl, refl);
  a_near_name_is_not_refused = λ u. (refl, refl, refl);
  a_false_schema_refuses_its_name = λ u. (refl, refl, refl);
  a_name_required_twice_is_met_once = λ u. (refl, refl, refl);
  a_name_required_twice_is_missing_twice = λ u. (refl, refl, refl);
  a_required_name_may_be_unexpected = λ u. (refl, refl, refl);
  a_required_undeclared_name_is_missing = λ u. (refl, refl, refl);
  unexpected_and_missing_are_both_told = λ u. (refl, refl, refl);
  a_required_undeclared_name_may_be_present = λ u. (refl, refl, refl);
  no_declared_names_are_still_declared = λ u. (refl, refl, refl);
  alone_it_is_a_false_schema_over_the_first_member = λ u. (refl, refl, refl);
  alone_its_instance_is_the_first_value = λ u. refl;
  additional_members_meet_their_schema = λ u. (refl, refl, refl);
  an_unexpected_member_is_told_at_its_object = λ u. (refl, refl, refl);
  a_missing_member_is_told_at_its_object = λ u. (refl, refl, refl);
  in_a_branch_an_unexpected_member_is_told_of_the_branch = λ u. (refl, refl, refl);
  a_fifth_container_is_asked = λ u. (refl, refl, refl);
  five_containers_are_accepted = λ u. (refl, refl, refl);
  the_last_of_14_names_is_asked = λ u. (refl, refl, refl);
  the_last_of_14_names_is_asked_alone = λ u. (refl, refl, refl);
  the_last_of_15_names_is_asked = λ u. (refl, refl, refl);
  the_last_of_15_names_is_asked_alone = λ u. (refl, refl, refl);
  the_last_of_16_names_is_asked = λ u. (refl, refl, refl);
  the_last_of_16_names_is_asked_alone = λ u. (refl, refl, refl);
  paths_are_escaped = λ u. (refl, refl, refl);
  a_name_beyond_ascii_stands_as_it_is_in_paths = λ u. (refl, refl, refl);
  quotes_and_percents_stand_as_they_are_in_paths = λ u. (refl, refl, refl);
  a_missing_name_is_told_as_json = λ u. (refl, refl, refl);
  three_unexpected_names_are_told_as_they_are = λ u. (refl, refl, refl);
  a_member_that_is_null_is_there = λ u. (refl, refl, refl);
  a_member_that_is_false_is_there = λ u. (refl, refl, refl);
  members_that_are_null_are_declared_and_unexpected = λ u. (refl, refl, refl);
  what_other_keywords_and_branches_name_is_additional = λ u. (refl, refl, refl);
  in_an_open_object_a_declared_name_meets_its_patterns = λ u. (refl, refl, refl);
  other_values_pass = λ u. (refl, refl, refl);
}
