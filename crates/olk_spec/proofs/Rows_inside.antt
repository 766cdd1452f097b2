use Rattle.std.proofs.Common.{refl}
use Rattle.olk_spec.proofs.Computed.{computed}
use Rattle.olk_spec.specs.Rows_inside.{Rows_inside}

pub rows_inside : Rows_inside
unfolding computed
rows_inside = record {
  each_keyword_that_accepts = λ u. (refl, refl, refl);
  each_keyword_that_accepts_shown = λ u. refl;
  each_keyword_that_refuses = λ u. (refl, refl, refl);
  each_keyword_that_refuses_shown = λ u. refl;
  too_many_branches_and_any_member_or_name = λ u. (refl, refl, refl);
  too_many_branches_and_any_member_or_name_shown = λ u. refl;
  a_choice_of_none_and_two_missing_names = λ u. (refl, refl, refl);
  a_choice_of_none_and_two_missing_names_shown = λ u. refl;
  unexpected_members_and_a_missing_name = λ u. (refl, refl, refl);
  unexpected_members_and_a_missing_name_shown = λ u. refl;
  matches_and_additional_members = λ u. (refl, refl, refl);
  matches_and_additional_members_shown = λ u. refl;
  declared_matching_and_additional_members = λ u. (refl, refl, refl);
  declared_matching_and_additional_members_shown = λ u. refl;
}
