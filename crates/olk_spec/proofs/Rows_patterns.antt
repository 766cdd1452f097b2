use Rattle.std.proofs.Common.{refl}
use Rattle.olk_spec.proofs.Computed.{computed}
use Rattle.olk_spec.specs.Rows_patterns.{Rows_patterns}

pub rows_patterns : Rows_patterns
unfolding computed
rows_patterns = record {
  all_four_faults_are_told = λ u. (refl, refl, refl);
  a_declared_name_meets_its_patterns_too = λ u. (refl, refl, refl);
  all_unexpected_names_are_told = λ u. (refl, refl, refl);
  the_first_unexpected_name_is_kept = λ u. refl;
  an_unfinished_match_that_counts = (refl, refl, refl);
  an_unfinished_match_that_does_not_count = (refl, refl, refl);
  alone_an_unfinished_match_counts = (refl, refl, refl);
  alone_an_unfinished_match_does_not_count = (refl, refl, refl);
  a_finished_match_counts_under_both = λ u. (refl, refl, refl);
  a_space_is_white_space = λ u. (refl, refl, refl);
  a_byte_order_mark_is_white_space = λ u. (refl, refl, refl);
  a_name_without_white_space_matches = λ u. (refl, refl, refl);
  a_name_is_additional_if_nothing_holds_or_matches_it = λ u. (refl, refl, refl);
  a_suffix_stands_at_the_end = λ u. (refl, refl, refl);
  next_line_is_no_white_space = λ u. (refl, refl, refl);
  a_line_separator_is_white_space = λ u. (refl, refl, refl);
  the_first_and_last_of_each_run_are_white_space = refl;
  all_25_characters_are_white_space = refl;
  their_neighbours_are_no_white_space = refl;
  an_exact_name_is_no_prefix = λ u. (refl, refl, refl);
  alternatives_are_no_prefixes = λ u. (refl, refl, refl);
  the_third_alternative_matches = λ u. (refl, refl, refl);
  an_unfinished_match_of_the_text_itself_counts = (refl, refl, refl);
  an_unfinished_match_inside_a_name_counts = (refl, refl, refl);
  a_name_is_not_additional_if_an_unfinished_match_counts = (refl, refl, refl);
  a_name_is_additional_if_an_unfinished_match_does_not_count = (refl, refl, refl);
  two_patterns_are_both_asked = λ u. (refl, refl, refl);
  declared_and_matching_names_are_expected = λ u. (refl, refl, refl);
  a_matching_name_is_expected = λ u. (refl, refl, refl);
  the_last_of_65_patterns_matches = λ u. (refl, refl, refl);
  the_first_of_66_patterns_does_not_count = (refl, refl, refl);
  the_first_of_66_patterns_counts = (refl, refl, refl);
  a_name_that_a_false_schema_refuses_is_not_additional = λ u. (refl, refl, refl);
  the_case_of_letters_counts = λ u. (refl, refl, refl);
  the_end_is_behind_a_line_feed = λ u. (refl, refl, refl);
  prefix_of_letters = refl;
  prefix_with_a_hyphen = refl;
  prefix_with_a_slash = refl;
  prefix_with_an_escaped_slash = refl;
  exact_letters = refl;
  exact_with_an_escaped_dollar = refl;
  prefix_that_ends_in_a_dollar = refl;
  alternatives = refl;
  no_white_space = refl;
  suffix_of_letters = refl;
  prefix_of_all_special_characters = refl;
  prefix_of_other_characters = refl;
  suffix_that_is_a_dollar = refl;
  letters_alone_are_no_test = refl;
  an_anchor_alone_is_no_test = refl;
  two_anchors_are_no_test = refl;
  one_alternative_is_no_test = refl;
  a_star_is_no_test = refl;
  a_plus_is_no_test = refl;
  a_question_mark_is_no_test = refl;
  a_class_is_no_test = refl;
  open_alternatives_are_no_test = refl;
  a_closing_brace_is_no_test = refl;
  a_closing_bracket_is_no_test = refl;
  a_group_is_no_test = refl;
  a_number_in_braces_is_no_test = refl;
  a_digit_is_no_test = refl;
  a_word_character_is_no_test = refl;
  an_escaped_hyphen_is_no_test = refl;
  an_escaped_dollar_is_no_suffix = refl;
  a_dollar_alone_is_no_suffix = refl;
  a_group_is_no_suffix = refl;
  a_dot_is_no_suffix = refl;
}
