use Rattle.std.proofs.Common.{refl}
use Rattle.olk_document_spec.proofs.Computed.{computed}
use Rattle.olk_document_spec.specs.Rows_references.{Rows_references}

pub rows_references : Rows_references
unfolding computed
rows_references = record {
  what_is_referred_to_is_right = λ u. (refl, refl, refl);
  what_is_referred_to_is_wrong = λ u. (refl, refl, refl);
  both_items_are_right = λ u. (refl, refl, refl);
  the_item_that_refers_is_wrong = λ u. (refl, refl, refl);
  a_slash_is_escaped = λ u. (refl, refl, refl);
  a_tilda_is_escaped = λ u. (refl, refl, refl);
  a_slash_names_an_integer = λ u. (refl, refl, refl);
  a_tilda_names_an_integer = λ u. (refl, refl, refl);
  behind_two_others_it_is_right = λ u. (refl, refl, refl);
  behind_two_others_it_is_wrong = λ u. (refl, refl, refl);
  both_hold = λ u. (refl, refl, refl);
  the_keyword_beside_it_is_asked = λ u. (refl, refl, refl);
  it_is_asked_beside_a_keyword = λ u. (refl, refl, refl);
  behind_as_many_as_may_be_it_is_wrong = λ u. (refl, refl, refl);
  a_tilde_alone_names_no_place = λ u. (refl, refl, refl);
  a_tilde_at_the_end_names_no_place = λ u. (refl, refl, refl);
  a_position_has_no_zero_before_it = λ u. (refl, refl, refl);
  the_empty_name = λ u. (refl, refl, refl);
  a_percent_sign_names_no_place = λ u. (refl, refl, refl);
  a_member_of_that_name_is_right = λ u. (refl, refl, refl);
  a_member_of_that_name_is_wrong = λ u. (refl, refl, refl);
  to_true = λ u. (refl, refl, refl);
  to_false = λ u. (refl, refl, refl);
  an_item_is_told_at_the_place_that_is_named = λ u. (refl, refl, refl);
  the_tree_of_the_place_that_is_named = λ u. refl;
  what_is_named_asks = λ u. refl;
}
