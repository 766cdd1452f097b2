use Rattle.std.proofs.Common.{refl}
use Rattle.olk_document_spec.proofs.Computed.{computed}
use Rattle.olk_document_spec.specs.Rows_contains.{Rows_contains}

pub rows_contains : Rows_contains
unfolding computed
rows_contains = record {
  the_last_is_contained = λ u. (refl, refl, refl);
  another_is_contained = λ u. (refl, refl, refl);
  two_are_contained = λ u. (refl, refl, refl);
  an_object_contains_what_it_likes = λ u. (refl, refl, refl);
  none_is_contained = λ u. (refl, refl, refl);
  no_items_contain_nothing = λ u. (refl, refl, refl);
  a_five_is_contained = λ u. (refl, refl, refl);
  two_fives_are_contained = λ u. (refl, refl, refl);
  no_five_is_contained = λ u. (refl, refl, refl);
  any_item_is_contained = λ u. (refl, refl, refl);
  no_items_contain_no_item = λ u. (refl, refl, refl);
  false_is_never_contained = λ u. (refl, refl, refl);
  of_a_fraction_no_digits_are_promised = λ u. (refl, refl, refl);
  what_is_not_contained_is_shown = λ u. refl;
  contains_asks_each_item = λ u. refl;
}
