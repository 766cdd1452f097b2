-- What `oneOf` finds, by how many branches accept.
use Rattle.std.proofs.Common.{◌≡◌, ℕ, ◌+◌, ◌<◌, ◌==◌, nat_lt, count_by, length, Bool, true, false, cond, List, [], ◌∷◌, refl, ap, ◌∙◌, arith, ◌++◌}
use Rattle.std.proofs.lemmas.List.Sums.{sum_by-cons}
use Rattle.std.proofs.lemmas.Bool.Decides.{nat_tests}
use Rattle.serde_json.specs.Data.{Data}
use Rattle.olk_spec.specs.Names.{Path, put_if, filter_once}
use Rattle.olk_spec.specs.Faults.{Context, fault, OneOfNotValid, OneOfMultipleValid}
use Rattle.olk_spec.specs.Reports.{fault_if}
use Rattle.olk_tree.specs.OneOf.{one_of_report}

module _ (n : ℕ) where
  pub several_is_some : 1 < n → (n == 0) ≡ false
  several_is_some l = grind (arith, nat_tests)

  pub several_is_not_one : 1 < n → (n == 1) ≡ false
  several_is_not_one l = grind (arith, nat_tests)

  pub several_is_more : 1 < n → nat_lt 1 n ≡ true
  several_is_more l = grind (arith, nat_tests)

  module _ (c : Context) (v : Data) (P Q : Path) where
    pub none_accepts : n ≡ 0 → one_of_report n c v P Q ≡ fault (OneOfNotValid c) v Q P ∷ []
    none_accepts e = ap (λ m. one_of_report m c v P Q) e

    pub one_accepts : n ≡ 1 → one_of_report n c v P Q ≡ []
    one_accepts e = ap (λ m. one_of_report m c v P Q) e

    pub several_accept : 1 < n → one_of_report n c v P Q ≡ fault (OneOfMultipleValid c) v Q P ∷ []
    several_accept l = λ i. fault_if (several_is_some l i) (OneOfNotValid c) v P Q ++ fault_if (several_is_more l i) (OneOfMultipleValid c) v P Q

pub count_those : {X : Type 0} (p : X → Bool) (xs : List X) → count_by p xs ≡ length (filter_once p xs)
count_those p [] = refl
count_those p (x ∷ xs) = sum_by-cons _ x xs ∙ ap (λ n. cond (p x) 1 0 + n) (count_those p xs) ∙ by (p x)
  where
    by : (b : Bool) → cond b 1 0 + length (filter_once p xs) ≡ length (put_if b x (filter_once p xs))
    by true = omega arith
    by false = omega arith
