-- `oneOf`: what its validators answer.
use Rattle.std.specs.Prelude.{◌≡◌, ℕ, zero, suc, ◌==◌, nat_lt, Bool, true, false, not, ◌&&◌, List, [], ◌∷◌, ◌++◌, map}
use Rattle.std.specs.List.{list_all, flat_map}
use Rattle.std.proofs.Common.{refl, sym, true≢false, arith}
use Rattle.std.proofs.lemmas.Bool.Decides.{nat_tests}
use Rattle.serde_json.specs.Data.{Data}
use Rattle.olk_spec.specs.Names.{Path, is_empty}
use Rattle.olk_spec.specs.Faults.{Fault, OneOfNotValid, OneOfMultipleValid, Context, context}
use Rattle.olk_spec.specs.Reports.{fault_if}
use Rattle.olk_meaning.specs.Chosen.{one_of_form, single_one_of_form}
use Rattle.olk_tree.specs.Answers.{AnswersOver}
use Rattle.olk_tree.specs.Formed.{is_one}
use Rattle.olk_tree.specs.OwnFaults.{own_fault_answers}
use Rattle.olk_tree.specs.Questions.{how_many, exactly_one}
use Rattle.olk_tree.specs.Shown.{one_of_tree}
use Rattle.olk_tree.specs.declared.one_of.OneOf.{OneOf}
use Rattle.olk_tree.specs.declared.one_of.SingleOneOf.{SingleOneOf}

-- the fault where n branches accept, none where it is one
abbrev pub one_of_report : ℕ → Context → Data → Path → Path → List Fault
one_of_report n c v P Q = fault_if (n == 0) (OneOfNotValid c) v P Q ++ fault_if (nat_lt 1 n) (OneOfMultipleValid c) v P Q

pub one_of_agrees : (n : ℕ) (c : Context) (v : Data) (P Q : Path) → is_empty (one_of_report n c v P Q) ≡ (n == 1)
one_of_agrees zero c v P Q = refl
one_of_agrees (suc zero) c v P Q = refl
one_of_agrees (suc (suc n)) c v P Q = by (suc (suc n) == 0) (nat_lt 1 (suc (suc n))) (suc (suc n) == 1) (grind (arith, nat_tests)) (grind (arith, nat_tests)) (grind (arith, nat_tests))
  where
    by : (none several one : Bool) → none ≡ false → several ≡ true → one ≡ false → is_empty (fault_if none (OneOfNotValid c) v P Q ++ fault_if several (OneOfMultipleValid c) v P Q) ≡ one
    by true several one e f g = absurd (true≢false e)
    by false false one e f g = absurd (true≢false (sym f))
    by false true true e f g = absurd (true≢false g)
    by false true false e f g = refl

module _ {N : Type 0} where
  abbrev pub one_of_answers : OneOf N → AnswersOver N
  one_of_answers k = record {
    means = λ m v. exactly_one (λ n. m n v) k.schemas.items;
    report = λ m r u v Q. one_of_report (how_many (λ n. m n v) u k.schemas.items) (context (map (λ n. r n u v Q) k.schemas.items)) v k.location Q;
    agrees = λ m r u h v Q. one_of_agrees (how_many (λ n. m n v) u k.schemas.items) (context (map (λ n. r n u v Q) k.schemas.items)) v k.location Q;
    first = λ m r s u v Q. one_of_report (how_many (λ n. m n v) u k.schemas.items) (context (map (λ n. r n u v Q) k.schemas.items)) v k.location Q;
    first_agrees = λ m r s u h v Q. one_of_agrees (how_many (λ n. m n v) u k.schemas.items) (context (map (λ n. r n u v Q) k.schemas.items)) v k.location Q;
    tree = λ m t u v Q. one_of_tree (λ n. t n u) v Q (λ n. (m n v).accepts u) k.location k.schemas.items;
    location = k.location;
    formed = λ f. not (is_one k.schemas.items) && list_all f k.schemas.items;
    forms = λ f. (k.location, one_of_form) ∷ flat_map f k.schemas.items;
  }

  abbrev pub single_one_of_answers : SingleOneOf N → AnswersOver N
  single_one_of_answers k = own_fault_answers k.location (record {
    means = λ m v. m k.node v;
    kind = λ r u v Q. OneOfNotValid (context (r k.node u v Q ∷ []));
    tree = λ m t u v Q. one_of_tree (λ n. t n u) v Q (λ n. (m n v).accepts u) k.location (k.node ∷ []);
    formed = λ f. f k.node;
    forms = λ f. (k.location, single_one_of_form) ∷ f k.node;
  })
