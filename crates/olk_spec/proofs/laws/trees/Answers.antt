use Rattle.olk_spec.proofs.laws.trees.Goals as goal
use Rattle.olk_spec.proofs.Refused_trees.{one_validity, one_list_of_annotations, one_frame, one_list_of_keywords, one_list_of_texts, names_are_shown, without_its_names_it_is_no_tree, at_another_member_it_is_no_tree, errors_are_told, with_another_text_it_is_no_tree, without_its_error_it_is_no_tree, any_text_stands_for_a_fraction, texts_of_a_leaf_stand_in_any_order, without_one_of_its_texts_it_is_no_leaf}

pub returns-clause-one_validity : goal.returns-clause-one_validity
returns-clause-one_validity c = one_validity

pub returns-clause-one_list : goal.returns-clause-one_list
returns-clause-one_list c = one_list_of_annotations

pub returns-clause-one_frame : goal.returns-clause-one_frame
returns-clause-one_frame c = one_frame

pub returns-clause-one_list_of_keywords : goal.returns-clause-one_list_of_keywords
returns-clause-one_list_of_keywords c = one_list_of_keywords

pub returns-clause-one_list_of_texts : goal.returns-clause-one_list_of_texts
returns-clause-one_list_of_texts c = one_list_of_texts

pub returns-clause-names : goal.returns-clause-names
returns-clause-names c = names_are_shown

pub returns-clause-no_names : goal.returns-clause-no_names
returns-clause-no_names c = without_its_names_it_is_no_tree

pub returns-clause-another_member : goal.returns-clause-another_member
returns-clause-another_member c = at_another_member_it_is_no_tree

pub returns-clause-errors : goal.returns-clause-errors
returns-clause-errors c = errors_are_told

pub returns-clause-another_text : goal.returns-clause-another_text
returns-clause-another_text c = with_another_text_it_is_no_tree

pub returns-clause-no_error : goal.returns-clause-no_error
returns-clause-no_error c = without_its_error_it_is_no_tree

pub returns-clause-any_text : goal.returns-clause-any_text
returns-clause-any_text c = any_text_stands_for_a_fraction

pub returns-clause-any_order : goal.returns-clause-any_order
returns-clause-any_order c = texts_of_a_leaf_stand_in_any_order

pub returns-clause-one_of_two : goal.returns-clause-one_of_two
returns-clause-one_of_two c = without_one_of_its_texts_it_is_no_leaf
