-- `anyOf`: what its validators answer.
use Rattle.std.specs.Prelude.{not, ◌&&◌, [], ◌∷◌, map}
use Rattle.std.specs.List.{list_all, flat_map}
use Rattle.olk_spec.specs.Faults.{AnyOf as any_of, context}
use Rattle.olk_meaning.specs.Chosen.{any_of_form, single_any_of_form}
use Rattle.olk_tree.specs.Answers.{AnswersOver}
use Rattle.olk_tree.specs.Formed.{is_one}
use Rattle.olk_tree.specs.OwnFaults.{own_fault_answers}
use Rattle.olk_tree.specs.Questions.{some}
use Rattle.olk_tree.specs.Shown.{any_of_tree}
use Rattle.olk_tree.specs.declared.any_of.AnyOf.{AnyOf}
use Rattle.olk_tree.specs.declared.any_of.SingleAnyOf.{SingleAnyOf}

module _ {N : Type 0} where
  abbrev pub any_of_answers : AnyOf N → AnswersOver N
  any_of_answers k = own_fault_answers k.location (record {
    means = λ m v. some (λ n. m n v) k.schemas.items;
    kind = λ r u v Q. any_of (context (map (λ n. r n u v Q) k.schemas.items));
    tree = λ m t u v Q. any_of_tree (λ n. t n u) v Q (λ n. (m n v).accepts u) k.location k.schemas.items;
    formed = λ f. not (is_one k.schemas.items) && list_all f k.schemas.items;
    forms = λ f. (k.location, any_of_form) ∷ flat_map f k.schemas.items;
  })

  abbrev pub single_any_of_answers : SingleAnyOf N → AnswersOver N
  single_any_of_answers k = own_fault_answers k.location (record {
    means = λ m v. m k.node v;
    kind = λ r u v Q. any_of (context (r k.node u v Q ∷ []));
    tree = λ m t u v Q. any_of_tree (λ n. t n u) v Q (λ n. (m n v).accepts u) k.location (k.node ∷ []);
    formed = λ f. f k.node;
    forms = λ f. (k.location, single_any_of_form) ∷ f k.node;
  })
