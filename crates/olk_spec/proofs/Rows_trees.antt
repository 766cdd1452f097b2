use Rattle.std.proofs.Common.{refl}
use Rattle.olk_spec.proofs.Computed.{computed}
use Rattle.olk_spec.specs.Rows_trees.{Rows_trees}

pub rows_trees : Rows_trees
unfolding computed
rows_trees = record {
  two_equal_required_names_are_not_fused = λ u. refl;
  beside_patterns_two_names_are_not_fused = λ u. refl;
  beside_an_additional_schema_one_name_is_not_fused = λ u. refl;
  in_a_closed_object_two_names_are_not_fused = λ u. refl;
  two_fused_names_are_shown_inside = λ u. refl;
  one_fused_name_is_shown_inside = λ u. refl;
  in_an_open_object_one_name_is_not_fused = λ u. refl;
  three_names_are_not_fused = λ u. refl;
  beside_true_two_names_are_fused = λ u. refl;
  beside_15_declared_names_one_name_is_fused = λ u. refl;
  one_of_two_fused_names_is_the_last_child = λ u. refl;
  one_fused_name_is_the_last_child = λ u. refl;
  required_names_that_are_met_are_shown = λ u. refl;
  a_declared_name_shows_its_patterns_too = λ u. refl;
  declared_and_additional_members_stand_in_their_order = λ u. refl;
  an_additional_member_stands_at_its_own_path = λ u. refl;
  a_declared_name_is_escaped_in_both_paths = λ u. refl;
  a_pattern_and_its_member_are_escaped = λ u. refl;
  beside_declared_names_matches_have_no_child = λ u. refl;
  without_a_match_there_is_no_child_of_matches = λ u. refl;
  the_child_of_matches_is_valid_where_a_member_is_not = λ u. refl;
  the_child_of_matches_goes_member_by_member = λ u. refl;
  a_matching_name_is_not_additional = λ u. refl;
  alone_an_additional_schema_shows_even_no_names = λ u. refl;
  beside_declared_names_no_additional_names_are_not_shown = λ u. refl;
  beside_declared_names_and_patterns_even_no_names_are_shown = λ u. refl;
  beside_true_declared_names_are_shown = λ u. refl;
  of_another_value_no_names_are_shown = λ u. refl;
  patterns_are_shown_of_another_value = λ u. refl;
  false_for_additional_members_is_shown_of_another_value = λ u. refl;
  a_schema_of_names_is_shown_of_another_value = λ u. refl;
  undeclared_names_are_not_shown = λ u. refl;
  names_are_shown_pattern_by_pattern = λ u. refl;
  branches_of_all_of_stand_at_their_keyword = λ u. refl;
  a_choice_shows_each_accepting_branch = λ u. refl;
  the_one_accepting_branch_is_shown = λ u. refl;
  a_choice_that_fails_shows_all_branches = λ u. refl;
  of_no_accepting_branch_all_are_shown = λ u. refl;
  of_too_many_branches_the_accepting_are_shown = λ u. refl;
  a_negation_that_accepts_is_shown = λ u. refl;
  dependent_names_are_shown_without_their_key = λ u. refl;
  dependent_schemas_are_shown_without_their_key = λ u. refl;
  property_dependencies_are_shown_without_their_key = λ u. refl;
  a_dependent_schema_stands_inside_its_keyword = λ u. refl;
  a_schema_of_a_dependency_stands_inside_its_keyword = λ u. refl;
  a_dependent_list_stands_at_its_keyword = λ u. refl;
  a_missing_dependent_name_stands_at_its_keyword = λ u. refl;
  a_list_of_a_dependency_stands_at_its_keyword = λ u. refl;
  the_tree_of_a_name_stands_at_the_object = λ u. refl;
  the_error_of_a_name_stands_at_the_object = λ u. refl;
  true_for_names_is_not_shown = λ u. refl;
  false_for_names_is_shown_where_it_accepts = λ u. refl;
  a_condition_that_refuses_is_not_shown = λ u. refl;
  a_condition_without_then_is_shown = λ u. refl;
  a_condition_that_refuses_without_else_is_shown_empty = λ u. refl;
  else_alone_is_not_shown = λ u. refl;
  an_invalid_node_shows_no_names = λ u. refl;
  the_error_of_a_leaf_has_its_keyword = λ u. refl;
  the_error_of_a_negation_has_its_keyword = λ u. refl;
  the_error_of_unexpected_names_has_their_keyword = λ u. refl;
  without_properties_one_name_is_not_fused = λ u. refl;
  in_a_closed_object_a_repeated_name_is_not_fused = λ u. refl;
  members_names_and_keys_are_shown_in_byte_order = λ u. refl;
  a_negation_of_a_fraction_promises_no_text = λ u. refl;
  a_false_schema_over_a_fraction_promises_no_text = λ u. refl;
}
