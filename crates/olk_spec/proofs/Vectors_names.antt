use Rattle.std.proofs.Common.{refl}
use Rattle.olk_spec.proofs.Computed.{computed}
use Rattle.olk_spec.specs.Vectors_names.{Vectors_names}

pub vectors_names : Vectors_names
unfolding computed
vectors_names = record {
  in_equal_names_of_13_bytes_a_false_schema = λ u. (refl, refl, refl);
  in_equal_names_of_13_bytes_a_required_false_schema = λ u. (refl, refl, refl);
  in_equal_names_of_13_bytes_a_required_true_schema = λ u. (refl, refl, refl);
  in_equal_names_of_13_bytes_a_declared_or_an_additional_schema = λ u. (refl, refl, refl);
  in_equal_names_of_12_bytes_a_false_schema = λ u. (refl, refl, refl);
  in_equal_names_of_12_bytes_a_required_false_schema = λ u. (refl, refl, refl);
  in_equal_names_of_12_bytes_a_required_true_schema = λ u. (refl, refl, refl);
  in_equal_names_of_12_bytes_a_declared_or_an_additional_schema = λ u. (refl, refl, refl);
  in_equal_names_of_4_bytes_a_false_schema = λ u. (refl, refl, refl);
  in_equal_names_of_4_bytes_a_required_false_schema = λ u. (refl, refl, refl);
  in_equal_names_of_4_bytes_a_required_true_schema = λ u. (refl, refl, refl);
  in_equal_names_of_4_bytes_a_declared_or_an_additional_schema = λ u. (refl, refl, refl);
  in_equal_empty_names_a_false_schema = λ u. (refl, refl, refl);
  in_equal_empty_names_a_required_false_schema = λ u. (refl, refl, refl);
  in_equal_empty_names_a_required_true_schema = λ u. (refl, refl, refl);
  in_equal_empty_names_a_declared_or_an_additional_schema = λ u. (refl, refl, refl);
  in_equal_names_beyond_ascii_a_false_schema = λ u. (refl, refl, refl);
  in_equal_names_beyond_ascii_a_required_false_schema = λ u. (refl, refl, refl);
  in_equal_names_beyond_ascii_a_required_true_schema = λ u. (refl, refl, refl);
  in_equal_names_beyond_ascii_a_declared_or_an_additional_schema = λ u. (refl, refl, refl);
  at_the_last_byte_of_13_a_false_schema = λ u. (refl, refl, refl);
  at_the_last_byte_of_13_a_required_false_schema = λ u. (refl, refl, refl);
  at_the_last_byte_of_13_a_required_true_schema = λ u. (refl, refl, refl);
  at_the_last_byte_of_13_a_declared_or_an_additional_schema = λ u. (refl, refl, refl);
  at_the_last_byte_of_12_a_false_schema = λ u. (refl, refl, refl);
  at_the_last_byte_of_12_a_required_false_schema = λ u. (refl, refl, refl);
  at_the_last_byte_of_12_a_required_true_schema = λ u. (refl, refl, refl);
  at_the_last_byte_of_12_a_declared_or_an_additional_schema = λ u. (refl, refl, refl);
  at_bytes_5_to_8_a_false_schema = λ u. (refl, refl, refl);
  at_bytes_5_to_8_a_required_false_schema = λ u. (refl, refl, refl);
  at_bytes_5_to_8_a_required_true_schema = λ u. (refl, refl, refl);
  at_bytes_5_to_8_a_declared_or_an_additional_schema = λ u. (refl, refl, refl);
  at_the_last_byte_of_4_a_false_schema = λ u. (refl, refl, refl);
  at_the_last_byte_of_4_a_required_false_schema = λ u. (refl, refl, refl);
  at_the_last_byte_of_4_a_required_true_schema = λ u. (refl, refl, refl);
  at_the_last_byte_of_4_a_declared_or_an_additional_schema = λ u. (refl, refl, refl);
  at_one_byte_more_a_false_schema = λ u. (refl, refl, refl);
  at_one_byte_more_a_required_false_schema = λ u. (refl, refl, refl);
  at_one_byte_more_a_required_true_schema = λ u. (refl, refl, refl);
  at_one_byte_more_a_declared_or_an_additional_schema = λ u. (refl, refl, refl);
  at_the_empty_name_a_false_schema = λ u. (refl, refl, refl);
  at_the_empty_name_a_required_false_schema = λ u. (refl, refl, refl);
  at_the_empty_name_a_required_true_schema = λ u. (refl, refl, refl);
  at_the_empty_name_a_declared_or_an_additional_schema = λ u. (refl, refl, refl);
  at_a_letter_beyond_ascii_a_false_schema = λ u. (refl, refl, refl);
  at_a_letter_beyond_ascii_a_required_false_schema = λ u. (refl, refl, refl);
  at_a_letter_beyond_ascii_a_required_true_schema = λ u. (refl, refl, refl);
  at_a_letter_beyond_ascii_a_declared_or_an_additional_schema = λ u. (refl, refl, refl);
}
