-- Which step is the first, as it is computed.
use Rattle.std.proofs.Common.{refl}
use Rattle.olk_tree.specs.First_rows.{First_rows}

pub first_rows : First_rows
first_rows = record {
  first_of_the_list = λ k e u. rw e refl;
  next_of_the_list = λ k e u. rw e refl;
  none_is_absent = λ k e u. rw e refl;
  no_object_lacks_names = λ k e u. rw e refl;
  first_declared_name = λ m P e u. rw e refl;
  next_declared_name = λ m P e u. rw e refl;
  absent_names_are_passed = λ m P e u. rw e refl;
  first_missing_of_two = λ k e f g u. rw e refl;
  second_missing_of_two = λ k e f g u. rw e (rw f refl);
  members_behind_two_names = λ k e f g u. rw e (rw f (rw g refl));
  member_before_pattern = λ k e u. rw e refl;
  pattern_before_pattern = λ k e u. rw e refl;
  next_pattern = λ k e u. rw e refl;
  single_pattern = λ P u. refl;
  additional_in_order = λ L M u. refl;
  any_member_is_too_many = λ L M u. refl;
  unexpected_before_a_later_member = λ L M m e u. rw e refl;
  member_before_a_later_unexpected = λ L M m e u. rw e refl;
  unexpected_behind_an_accepted_member = λ L M m e u. rw e refl;
  unexpected_before_a_missing_name = λ L M m e u. rw e refl;
  member_before_a_missing_name = λ L M m e u. rw e refl;
  missing_name_is_last = λ L M m e u. rw e refl;
  rest_before_a_later_match = λ L M u. refl;
  patterns_of_one_member = λ L M u. refl;
  unexpected_before_a_later_match = λ L M u. refl;
  declared_before_its_pattern = λ L M m e u. rw e refl;
  pattern_behind_declared = λ L M m e u. rw e refl;
  first_refused_name = λ P u. refl;
  no_name_is_allowed = λ P u. refl;
  first_refusing_key = λ k e u. rw e refl;
  absent_keys_are_passed = λ k e u. rw e refl;
  first_refusing_branch = λ k e u. rw e refl;
  no_branch_accepts = λ k e u. rw e refl;
  no_branch_of_one_of_accepts = λ k e u. rw e refl;
  several_branches_of_one_of_accept = λ k e u. rw e refl;
  then_where_if_accepts = λ P u. refl;
  else_where_if_refuses = λ P u. refl;
  if_tells_nothing = λ P u. refl;
  first_refusing_keyword = λ ks P u e. rw e refl;
  false_at_its_place = λ P u. refl;
}
