use Rattle.std.proofs.Common.{refl}
use Rattle.olk_spec.proofs.Computed.{computed}
use Rattle.olk_spec.specs.Rows_bench.{Rows_bench}

pub rows_bench : Rows_bench
unfolding computed
rows_bench = record {
  a_value_of_kind_null = λ u. (refl, refl, refl);
  a_value_of_kind_boolean = λ u. (refl, refl, refl);
  a_value_of_kind_integer = λ u. (refl, refl, refl);
  a_value_of_kind_number = λ u. (refl, refl, refl);
  a_value_of_kind_string = λ u. (refl, refl, refl);
  a_value_of_kind_array = λ u. (refl, refl, refl);
  a_value_of_kind_object = λ u. (refl, refl, refl);
  a_value_of_kind_null_is_of_no_other = λ u. (refl, refl, refl);
  a_value_of_kind_boolean_is_of_no_other = λ u. (refl, refl, refl);
  a_value_of_kind_integer_is_of_no_other = λ u. (refl, refl, refl);
  a_value_of_kind_string_is_of_no_other = λ u. (refl, refl, refl);
  a_value_of_kind_array_is_of_no_other = λ u. (refl, refl, refl);
  a_value_of_kind_object_is_of_no_other = λ u. (refl, refl, refl);
  a_fraction_is_a_number = λ u. (refl, refl, refl);
  a_fraction_is_no_integer = λ u. (refl, refl, refl);
  a_text_shows_no_fraction = λ u. (refl, refl, refl);
  a_constant_number = λ u. (refl, refl, refl);
  another_number = λ u. (refl, refl, refl);
  a_text_for_a_number = λ u. (refl, refl, refl);
  a_constant_text = λ u. (refl, refl, refl);
  another_text = λ u. (refl, refl, refl);
  the_minimum_itself = λ u. (refl, refl, refl);
  less_than_the_minimum = λ u. (refl, refl, refl);
  the_maximum_itself = λ u. (refl, refl, refl);
  greater_than_the_maximum = λ u. (refl, refl, refl);
  a_fraction_is_no_whole_number = λ u. (refl, refl, refl);
  a_text_is_no_whole_number = λ u. (refl, refl, refl);
  a_multiple_below_zero = λ u. (refl, refl, refl);
  no_multiple_below_zero = λ u. (refl, refl, refl);
  two_characters_of_four_bytes = λ u. (refl, refl, refl);
  one_character_of_two_bytes = λ u. (refl, refl, refl);
  three_characters = λ u. (refl, refl, refl);
  a_number_has_no_length = λ u. (refl, refl, refl);
  kinds_have_names = refl;
  a_constant_object = refl;
  a_text_as_maximum = refl;
  multiples_of_zero = refl;
  a_length_below_zero = refl;
  kind_is_unknown = refl;
  null_as_constant = refl;
  no_leaf_takes_a_fraction = refl;
  each_kind_builds = refl;
  constants_and_limits_build = refl;
  bodies_build_alone_and_behind_slow = refl;
  a_greater_number_below_zero = λ u. (refl, refl, refl);
  a_text_that_begins_so = λ u. (refl, refl, refl);
  a_text_in_capitals = λ u. (refl, refl, refl);
  a_number_past_the_signed_ones = λ u. (refl, refl, refl);
  zero_is_a_multiple = λ u. (refl, refl, refl);
  one_character_of_four_bytes = λ u. (refl, refl, refl);
  an_unknown_keyword_is_ignored = λ u. (refl, refl, refl);
  a_class_is_refused = refl;
  a_slow_nothing_is_refused = refl;
  a_slow_anchor_is_refused = refl;
  an_empty_pattern_is_refused = refl;
  two_anchors_is_refused = refl;
  a_slow_end_is_refused = refl;
  the_end_is_not_the_start = (refl, refl);
  the_end_is_the_end = (refl, refl);
  the_start_is_the_start = (refl, refl);
  both_ends_are_the_whole = (refl, refl);
  the_end_is_behind_a_line_feed = (refl, refl);
  a_test_needs_no_matcher = (refl, refl);
  a_body_stands_anywhere = λ u. (refl, refl, refl);
  an_escaped_body_stands_anywhere = λ u. (refl, refl, refl);
}
