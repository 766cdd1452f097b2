-- `$ref`: it answers what the place answers that it names.
use Rattle.std.specs.Prelude.{[], ◌∷◌}
use Rattle.olk_spec.specs.Tree.{plain}
use Rattle.olk_tree.specs.Answers.{AnswersOver}
use Rattle.olk_documents.specs.declared.reference.Reference.{Reference}

module _ {N : Type 0} where
  abbrev pub reference_answers : Reference N → AnswersOver N
  reference_answers k = record {
    means = λ m v. m k.target.value v;
    report = λ m r u v Q. r k.target.value u v Q;
    agrees = λ m r u h v Q. h k.target.value v Q;
    first = λ m r s u v Q. s k.target.value u v Q;
    first_agrees = λ m r s u h v Q. h k.target.value v Q;
    tree = λ m t u v Q. plain k.location Q (t k.target.value u v Q ∷ []);
    location = k.location;
    formed = λ f. f k.target.value;
    forms = λ f. f k.target.value;
  }
