use Rattle.std.proofs.Common.{refl}
use Rattle.olk_document_spec.proofs.Computed.{computed}
use Rattle.olk_document_spec.specs.Rows_arrays.{Rows_arrays}

pub rows_arrays : Rows_arrays
unfolding computed
rows_arrays = record {
  each_item_is_right = λ u. (refl, refl, refl);
  an_item_is_wrong = λ u. (refl, refl, refl);
  an_object_has_no_items = λ u. (refl, refl, refl);
  members_named_as_positions_are_no_items = λ u. (refl, refl, refl);
  each_of_two_is_right = λ u. (refl, refl, refl);
  each_of_two_is_wrong = λ u. (refl, refl, refl);
  an_item_that_is_absent_is_not_asked = λ u. (refl, refl, refl);
  an_item_behind_the_schemas_is_not_asked = λ u. (refl, refl, refl);
  no_item_is_asked = λ u. (refl, refl, refl);
  members_named_as_positions_are_no_items_of_two = λ u. (refl, refl, refl);
  true_accepts_each = λ u. (refl, refl, refl);
  false_refuses_each = λ u. (refl, refl, refl);
  false_accepts_no_items = λ u. (refl, refl, refl);
  true_accepts_the_first = λ u. (refl, refl, refl);
  false_refuses_the_second = λ u. (refl, refl, refl);
  items_is_asked_behind_the_first = λ u. (refl, refl, refl);
  an_item_behind_the_first_is_wrong = λ u. (refl, refl, refl);
  fewer_than_three = λ u. (refl, refl, refl);
  three = λ u. (refl, refl, refl);
  more_than_three = λ u. (refl, refl, refl);
  items_of_items = λ u. (refl, refl, refl);
  items_of_a_member = λ u. (refl, refl, refl);
  an_eleventh_item = λ u. (refl, refl, refl);
  trees_of_items = λ u. refl;
  a_wrong_item_is_shown = λ u. refl;
  items_ask_for_each_item = λ u. refl;
}
