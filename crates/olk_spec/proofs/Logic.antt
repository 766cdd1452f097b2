-- The laws of the meaning.
use Rattle.std.specs.Prelude.{◌≡◌, Bool, true, false, not, cond, ◌&&◌, ◌||◌, ◌==◌, ◌+◌, List, [], ◌∷◌, codes}
use Rattle.std.proofs.Common.{refl, sym, ◌∙◌, subst, arith}
use Rattle.olk_spec.specs.Names.{is_empty}
use Rattle.olk_spec.specs.Faults.{◌∼◌, like_empty}
use Rattle.olk_spec.specs.Meaning.{meaning}
use Rattle.olk_spec.specs.Laws.{Empty_report, Only_report, Not_not, One_branch}
use Rattle.olk_spec.proofs.Order.{∼_is_empty}
use Rattle.olk_spec.proofs.Verdicts.{verdict_of_reports}

pub nil_of_is_empty : {A : Type 0} (xs : List A) → is_empty xs ≡ true → xs ≡ []
nil_of_is_empty [] e = refl
nil_of_is_empty (x ∷ xs) e = grind arith

pub empty_report : Empty_report
empty_report W u S v P Q = (
  λ e. subst (λ fs. [] ∼ fs) (sym (nil_of_is_empty _ (sym (verdict_of_reports W u S v P Q) ∙ e))) like_empty,
  λ h. verdict_of_reports W u S v P Q ∙ sym (∼_is_empty h),
)

pub only_report : Only_report
only_report W u S v P Q list e h = nil_of_is_empty list (∼_is_empty h ∙ sym (verdict_of_reports W u S v P Q) ∙ e)

twice : (a : Bool) → ((true && not ((true && not a) && true)) && true) ≡ a
twice true = refl
twice false = refl

pub not_not : Not_not
unfolding meaning
not_not W u S v = twice _

one_of_all : (a : Bool) → (((a && true) && true) && true) ≡ a
one_of_all true = refl
one_of_all false = refl

pub all_of_one : One_branch (codes "allOf")
unfolding meaning
all_of_one W u S v = one_of_all _

one_of_any : (a : Bool) → ((true && (a || false)) && true) ≡ a
one_of_any true = refl
one_of_any false = refl

pub any_of_one : One_branch (codes "anyOf")
unfolding meaning
any_of_one W u S v = one_of_any _

one_of_counted : (a : Bool) → ((true && (0 + cond a 1 0 == 1)) && true) ≡ a
one_of_counted true = refl
one_of_counted false = refl

pub one_of_one : One_branch (codes "oneOf")
unfolding meaning
one_of_one W u S v = one_of_counted _
