-- `allOf`: what its validators answer.
use Rattle.std.specs.Prelude.{not, ◌&&◌, [], ◌∷◌}
use Rattle.std.specs.List.{list_all, flat_map}
use Rattle.olk_spec.specs.Tree.{plain}
use Rattle.olk_meaning.specs.Chosen.{all_of_form, single_all_of_form}
use Rattle.olk_tree.specs.Answers.{AnswersOver}
use Rattle.olk_tree.specs.Each.{each_answers}
use Rattle.olk_tree.specs.Formed.{is_one}
use Rattle.olk_tree.specs.Shown.{branch_trees}
use Rattle.olk_tree.specs.declared.all_of.AllOf.{AllOf}
use Rattle.olk_tree.specs.declared.all_of.SingleValueAllOf.{SingleValueAllOf}

module _ {N : Type 0} where
  abbrev pub all_of_answers : AllOf N → AnswersOver N
  all_of_answers k = each_answers (λ v. k.schemas.items) k.location (λ f. not (is_one k.schemas.items) && list_all f k.schemas.items) (λ f. (k.location, all_of_form) ∷ flat_map f k.schemas.items)

  abbrev pub single_all_of_answers : SingleValueAllOf N → AnswersOver N
  single_all_of_answers k = record {
    means = λ m v. m k.node v;
    report = λ m r u v Q. r k.node u v Q;
    agrees = λ m r u h v Q. h k.node v Q;
    first = λ m r s u v Q. s k.node u v Q;
    first_agrees = λ m r s u h v Q. h k.node v Q;
    tree = λ m t u v Q. plain k.location Q (branch_trees (λ n. t n u) v Q (k.node ∷ []));
    location = k.location;
    formed = λ f. f k.node;
    forms = λ f. (k.location, single_all_of_form) ∷ f k.node;
  }
