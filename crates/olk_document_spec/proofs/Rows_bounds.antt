use Rattle.std.proofs.Common.{refl}
use Rattle.std.specs.Float.Ieee.{le}
use Rattle.olk_document_spec.proofs.Computed.{computed}
use Rattle.olk_document_spec.specs.Rows_bounds.{Rows_bounds}

pub rows_bounds : Rows_bounds
unfolding computed le
rows_bounds = record {
  one_or_more_holds_0 = λ u. (refl, refl, refl);
  one_or_more_holds_1 = λ u. (refl, refl, refl);
  one_or_more_holds_2 = λ u. (refl, refl, refl);
  one_or_more_fails_0 = λ u. (refl, refl, refl);
  one_or_more_fails_1 = λ u. (refl, refl, refl);
  two_or_more_holds_0 = λ u. (refl, refl, refl);
  two_or_more_holds_1 = λ u. (refl, refl, refl);
  two_or_more_holds_2 = λ u. (refl, refl, refl);
  two_or_more_fails_0 = λ u. (refl, refl, refl);
  two_or_more_fails_1 = λ u. (refl, refl, refl);
  two_or_more_fails_2 = λ u. (refl, refl, refl);
  none_or_more_holds_0 = λ u. (refl, refl, refl);
  none_or_more_holds_1 = λ u. (refl, refl, refl);
  none_or_more_holds_2 = λ u. (refl, refl, refl);
  one_at_most_holds_0 = λ u. (refl, refl, refl);
  one_at_most_holds_1 = λ u. (refl, refl, refl);
  one_at_most_fails_0 = λ u. (refl, refl, refl);
  one_at_most_fails_1 = λ u. (refl, refl, refl);
  one_at_most_fails_2 = λ u. (refl, refl, refl);
  none_or_one_holds_0 = λ u. (refl, refl, refl);
  none_or_one_holds_1 = λ u. (refl, refl, refl);
  none_or_one_fails_0 = λ u. (refl, refl, refl);
  one_to_three_holds_0 = λ u. (refl, refl, refl);
  one_to_three_holds_1 = λ u. (refl, refl, refl);
  one_to_three_fails_0 = λ u. (refl, refl, refl);
  one_to_three_fails_1 = λ u. (refl, refl, refl);
  three_and_one_at_most_fails_0 = λ u. (refl, refl, refl);
  three_and_one_at_most_fails_1 = λ u. (refl, refl, refl);
  three_and_one_at_most_fails_2 = λ u. (refl, refl, refl);
  least_alone_says_nothing = λ u. (refl, refl, refl);
  most_alone_says_nothing = λ u. (refl, refl, refl);
  two_point_nought_is_two_holds = λ u. (refl, refl, refl);
  two_point_nought_is_two_fails = λ u. (refl, refl, refl);
  bounds_ask_nothing_of_an_object = λ u. (refl, refl, refl);
}
