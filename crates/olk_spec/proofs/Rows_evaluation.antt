use Rattle.std.proofs.Common.{refl}
use Rattle.olk_spec.proofs.Computed.{computed}
use Rattle.olk_spec.specs.Rows_evaluation.{Rows_evaluation}

pub rows_evaluation : Rows_evaluation
unfolding computed
rows_evaluation = record {
  the_names_met_are_shown = λ u. refl;
  a_fused_validator_stands_at_its_keyword = λ u. refl;
  two_missing_names_are_two_errors = λ u. refl;
  a_missing_name_is_a_child_at_required = λ u. refl;
  a_name_for_each_match = λ u. refl;
  more_than_one_branch_is_an_own_error = λ u. refl;
  matches_stand_in_a_child_of_their_own = λ u. refl;
  of_14_names_two_are_missing = λ u. refl;
  of_15_names_two_are_missing = λ u. refl;
  one_missing_name_stands_in_the_closed_object = λ u. refl;
  beside_patterns_it_stands_alone = λ u. refl;
  a_condition_that_holds_is_shown = λ u. refl;
  a_condition_that_fails_is_not_shown = λ u. refl;
  a_schema_chosen_by_a_text_is_shown = λ u. refl;
  errors_of_the_parent_come_first = λ u. refl;
  any_of_none_is_invalid_without_errors = λ u. refl;
  one_of_none_is_invalid_without_errors = λ u. refl;
  a_false_schema_is_an_error_of_its_place = λ u. refl;
}
