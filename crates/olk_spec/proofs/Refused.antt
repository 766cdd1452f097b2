-- Which lists are reports.
use Rattle.std.specs.Prelude.{◌≡◌, false, List, nat_eq}
use Rattle.std.specs.Fmt.{digits}
use Rattle.std.specs.Str.{chars}
use Rattle.std.proofs.Common.{refl, sym, ◌∙◌, ap, true≢false}
use Rattle.std.proofs.lemmas.Cmp.{nat_list_eq_equiv, lists_equiv}
use lib.Pointwise.{pointwise}
use Rattle.serde_json.proofs.OnLiterals.{serde_json_on_literals}
use Rattle.olk_spec.specs.Literals.{literal}
use Rattle.olk_spec.specs.Meaning.{meaning}
use Rattle.olk_spec.specs.Faults.{Fault, IsLike, like, like_any_of, like_branch, like_none, ◌∼◌, like_empty, like_next, like_swap}
use Rattle.olk_spec.specs.Answers.{lines}
use Rattle.olk_spec.specs.Forms.{told, fault_keyword}
use Rattle.olk_spec.specs.Refused.{place}
use Rattle.olk_spec.specs.Refused as refused
use Rattle.olk_spec.proofs.Order.{∼_length, ∼_refl, ∼_map}
use Rattle.olk_spec.proofs.Lines.{same_lines, like_told, like_keyword}

pub one_length : refused.One_length
one_length W u S v P Q list h = ∼_length h

same_place : (f g : Fault) → IsLike f g → place f ≡ place g
same_place f g (like h) = refl

pub one_list_of_places : refused.One_list_of_places
one_list_of_places W u S v P Q list h = ∼_map place same_place h

pub one_list_of_lines : refused.One_list_of_lines
one_list_of_lines W u S v P Q list h = same_lines h

pub one_list_of_kinds : refused.One_list_of_kinds
one_list_of_kinds W u S v P Q list h = ∼_map told like_told h

pub one_list_of_fault_keywords : refused.One_list_of_fault_keywords
one_list_of_fault_keywords W u S v P Q list h = ∼_map fault_keyword like_keyword h

-- ---- lists with other lines are no reports

differ : (fs gs : List Fault) → pointwise (pointwise nat_eq) (lines fs) (lines gs) ≡ false → ¬ (fs ∼ gs)
differ fs gs n h = true≢false (sym ((lists_equiv nat_list_eq_equiv).refl (lines fs)) ∙ ap (pointwise _ _) (same_lines h) ∙ n)

pub all_names_are_told : refused.All_names_are_told
unfolding literal chars digits meaning serde_json_on_literals
all_names_are_told u = ∼_refl _

pub first_name_alone_is_no_report : refused.First_name_alone_is_no_report
unfolding literal chars digits meaning serde_json_on_literals
first_name_alone_is_no_report u = differ _ _ refl

pub order_in_a_branch_is_free : refused.Order_in_a_branch_is_free
unfolding literal chars digits meaning serde_json_on_literals
order_in_a_branch_is_free u = (∼_refl _, like_next (like (like_any_of (like_branch (∼_refl _) (like_branch like_swap like_none)))) like_empty)

pub first_faults_alone_are_no_report : refused.First_faults_alone_are_no_report
unfolding literal chars digits meaning serde_json_on_literals
first_faults_alone_are_no_report u = differ _ _ refl

pub exchanged_branches_are_no_report : refused.Exchanged_branches_are_no_report
unfolding literal chars digits meaning serde_json_on_literals
exchanged_branches_are_no_report u = differ _ _ refl

pub no_branches_are_no_report : refused.No_branches_are_no_report
unfolding literal chars digits meaning serde_json_on_literals
no_branches_are_no_report u = differ _ _ refl
