use Rattle.olk_spec.proofs.laws.order.Goals as goal
use Rattle.olk_spec.proofs.Refused.{one_length, one_list_of_places, one_list_of_lines, one_list_of_kinds, one_list_of_fault_keywords, all_names_are_told, first_name_alone_is_no_report, order_in_a_branch_is_free, first_faults_alone_are_no_report, exchanged_branches_are_no_report, no_branches_are_no_report}

pub returns-clause-one_length : goal.returns-clause-one_length
returns-clause-one_length c = one_length

pub returns-clause-one_list_of_places : goal.returns-clause-one_list_of_places
returns-clause-one_list_of_places c = one_list_of_places

pub returns-clause-one_list_of_lines : goal.returns-clause-one_list_of_lines
returns-clause-one_list_of_lines c = one_list_of_lines

pub returns-clause-one_list_of_kinds : goal.returns-clause-one_list_of_kinds
returns-clause-one_list_of_kinds c = one_list_of_kinds

pub returns-clause-one_list_of_keywords : goal.returns-clause-one_list_of_keywords
returns-clause-one_list_of_keywords c = one_list_of_fault_keywords

pub returns-clause-all_names : goal.returns-clause-all_names
returns-clause-all_names c = all_names_are_told

pub returns-clause-first_name : goal.returns-clause-first_name
returns-clause-first_name c = first_name_alone_is_no_report

pub returns-clause-any_order : goal.returns-clause-any_order
returns-clause-any_order c = order_in_a_branch_is_free

pub returns-clause-first_faults : goal.returns-clause-first_faults
returns-clause-first_faults c = first_faults_alone_are_no_report

pub returns-clause-exchanged : goal.returns-clause-exchanged
returns-clause-exchanged c = exchanged_branches_are_no_report

pub returns-clause-no_branches : goal.returns-clause-no_branches
returns-clause-no_branches c = no_branches_are_no_report
