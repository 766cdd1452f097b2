use Rattle.std.proofs.Common.{refl}
use Rattle.olk_spec.proofs.Computed.{computed}
use Rattle.olk_spec.specs.Rows_faults.{Rows_faults}

pub rows_faults : Rows_faults
unfolding computed
rows_faults = record {
  where_no_branch_accepts_each_tells_what_it_finds = λ u. (refl, refl, refl);
  where_too_many_accept_each_tells_what_it_finds = λ u. (refl, refl, refl);
  the_first_of_two_unexpected_names_is_kept = λ u. refl;
  beside_patterns_names_are_told = λ u. (refl, refl, refl);
  faults_have_the_keywords_of_their_kinds = λ u. refl;
  a_choice_in_a_member_is_kept_with_its_branches = λ u. refl;
  no_accepting_branch_is_kept_with_its_branches = λ u. refl;
  too_many_accepting_branches_are_kept = λ u. refl;
  a_name_is_kept_with_the_fault_inside = λ u. refl;
  no_accepting_branch = λ u. refl;
  too_many_accepting_branches = λ u. refl;
  no_choice = λ u. refl;
  a_negation = λ u. refl;
  a_name_keeps_the_fault_inside = λ u. refl;
  a_fault_inside_is_of_the_name = λ u. refl;
  names_that_are_refused_are_told_of_the_object = λ u. refl;
  alone_it_is_told_at_the_object = λ u. refl;
  a_false_member = λ u. refl;
  an_unexpected_name_beside_patterns = λ u. refl;
  two_unexpected_names_are_one_fault = λ u. refl;
  a_dependent_name_is_told_at_the_keyword = λ u. refl;
  a_name_of_a_dependency_is_told_at_the_keyword = λ u. refl;
  a_required_name_is_told_of_the_object = λ u. refl;
  a_leaf_is_told_of_the_value = λ u. refl;
  a_name_that_is_refused = refl;
  an_item_that_is_no_text = refl;
  a_repeated_text = refl;
  a_pattern_that_is_refused = refl;
  a_value_that_a_leaf_refuses = refl;
  a_value_that_is_no_schema = refl;
  declared_names_in_a_list = refl;
  a_choice_over_a_whole_number_promises_its_text = λ u. refl;
  a_choice_over_a_fraction_promises_no_text = λ u. refl;
  no_accepting_branch_over_a_fraction_promises_no_text = λ u. refl;
  too_many_accepting_branches_over_a_fraction_promise_no_text = λ u. refl;
  a_negation_over_a_fraction_promises_no_text = λ u. refl;
  a_false_schema_over_a_fraction_promises_no_text = λ u. refl;
  a_name_of_an_object_with_a_fraction_promises_its_text = λ u. refl;
  a_name_whose_own_fault_prints_a_fraction_promises_no_text = λ u. refl;
  a_refused_name_with_a_fraction_promises_its_text = refl;
  over_whole_numbers_each_kind_promises_its_text = λ u. refl;
  over_a_fraction_names_and_leaves_promise_their_texts = λ u. refl;
  refusals_without_a_fraction_promise_their_texts = refl;
  refusals_that_print_a_fraction_promise_no_text = refl;
  the_name_of_a_leaf_is_told_as_json = refl;
}
