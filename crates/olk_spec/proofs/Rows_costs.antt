use Rattle.std.proofs.Common.{refl}
use Rattle.olk_spec.proofs.Computed.{computed}
use Rattle.olk_spec.specs.Rows_costs.{Rows_costs}

pub rows_costs : Rows_costs
unfolding computed
rows_costs = record {
  a_matcher_is_asked_for_a_declared_name = (refl, refl, refl, refl);
  an_unfinished_entry_is_asked_again = (refl, refl);
  tests_make_no_matcher = (refl, refl, refl, refl);
  tests_ask_no_matcher = (refl, refl);
  patterns_beside_true_are_compiled_once = (refl, refl, refl, refl);
  a_table_of_tests_asks_no_matcher = (refl, refl, refl, refl);
  declared_names_ask_no_matcher = (refl, refl);
  other_names_ask_no_matcher = (refl, refl);
  a_condition_that_is_read_is_compiled = (refl, refl, refl, refl);
  a_condition_alone_is_not_compiled = (refl, refl, refl, refl);
  true_for_names_is_not_compiled = (refl, refl, refl, refl);
  false_for_names_is_not_compiled = (refl, refl, refl, refl);
  a_name_list_is_not_compiled = (refl, refl, refl, refl);
  one_of_three_patterns_makes_a_matcher = (refl, refl, refl, refl);
  one_of_three_patterns_asks_a_matcher = (refl, refl);
  schemas_chosen_by_a_text_are_compiled = (refl, refl, refl, refl);
  in_a_branch_three_names_and_two_patterns_ask_six = (refl, refl, refl, refl);
  each_place_is_compiled_once = (refl, refl, refl, refl);
  patterns_inside_patterns_are_asked = (refl, refl);
  each_branch_may_be_asked = (refl, refl);
  each_member_asks_the_matcher = (refl, refl);
  without_additional_properties_there_is_no_table = (refl, refl, refl, refl);
  without_a_table_a_declared_name_asks = (refl, refl);
  beside_an_additional_schema_there_is_a_table = (refl, refl, refl, refl);
  beside_an_additional_schema_a_declared_name_asks_nothing = (refl, refl);
  a_negation_asks = (refl, refl);
  a_branch_of_one_of_asks = (refl, refl);
  the_second_branch_of_one_of_asks = (refl, refl);
  the_third_branch_of_any_of_asks = (refl, refl);
  a_condition_asks = (refl, refl);
  beside_else_a_condition_asks = (refl, refl);
  what_applies_where_the_condition_holds_asks = (refl, refl);
  a_dependent_schema_asks = (refl, refl);
  a_schema_of_a_dependency_asks = (refl, refl);
  a_branch_of_all_of_asks = (refl, refl);
  what_applies_where_the_condition_fails_asks = (refl, refl);
  a_schema_chosen_by_a_text_asks = (refl, refl);
  a_declared_member_asks = (refl, refl);
  two_unfinished_entries_are_asked_again = (refl, refl);
  an_additional_schema_asks = (refl, refl);
  a_member_and_its_leaf_are_counted = (refl, refl, refl, refl);
  else_alone_is_not_compiled = (refl, refl, refl, refl);
  a_schema_of_a_dependency_is_compiled = (refl, refl, refl, refl);
  a_dependent_schema_is_compiled = (refl, refl, refl, refl);
  an_additional_schema_is_compiled = (refl, refl, refl, refl);
  each_branch_of_one_of_is_compiled = (refl, refl, refl, refl);
  patterns_in_a_branch_make_matchers = (refl, refl, refl, refl);
  a_table_of_65_patterns = (refl, refl, refl, refl);
  a_table_of_66_patterns = (refl, refl, refl, refl);
  no_entry_of_65_is_asked_again = (refl, refl);
  one_entry_of_66_is_asked_again = (refl, refl);
}
