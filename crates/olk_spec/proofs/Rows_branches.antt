use Rattle.std.proofs.Common.{refl}
use Rattle.olk_spec.proofs.Computed.{computed}
use Rattle.olk_spec.specs.Rows_branches.{Rows_branches}

pub rows_branches : Rows_branches
unfolding computed
rows_branches = record {
  any_of_none_refuses = λ u. (refl, refl, refl);
  one_of_none_refuses = λ u. (refl, refl, refl);
  all_of_none_accepts = λ u. (refl, refl, refl);
  one_accepting_branch_of_any_of_is_enough = λ u. (refl, refl, refl);
  two_accepting_branches_are_too_many = λ u. (refl, refl, refl);
  three_accepting_branches_are_too_many = λ u. (refl, refl, refl);
  one_accepting_branch_is_enough = λ u. (refl, refl, refl);
  the_other_branch_is_enough = λ u. (refl, refl, refl);
  each_branch_tells_all_that_it_finds = λ u. (refl, refl, refl);
  branches_inside_a_branch_tell_theirs = λ u. (refl, refl, refl);
  inside_a_member_a_choice_and_its_branches_are_told_there = λ u. (refl, refl, refl);
  one_of_in_a_branch_is_told_of_the_branch = λ u. (refl, refl, refl);
  a_negation_shows_its_schema = λ u. (refl, refl, refl);
  a_double_negation_shows_the_inner_one = λ u. (refl, refl, refl);
  inside_a_member_a_negation_is_told_there = λ u. (refl, refl, refl);
  where_the_condition_fails_else_applies = λ u. (refl, refl, refl);
  where_the_condition_holds_then_applies = λ u. (refl, refl, refl);
  then_alone_is_unread = λ u. (refl, refl, refl);
  then_alone_builds = refl;
  else_alone_is_unread = λ u. (refl, refl, refl);
  each_branch_of_all_of_is_asked = λ u. (refl, refl, refl);
  the_branch_behind_100_others_has_position_100 = λ u. (refl, refl, refl);
  the_eleventh_branch_has_position_10 = λ u. (refl, refl, refl);
}
