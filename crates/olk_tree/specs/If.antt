-- `if`, `then` and `else`: what their validators answer.
use Rattle.std.specs.Prelude.{◌≡◌, Bool, true, false, cond, ◌&&◌, List, [], ◌∷◌, ◌++◌}
use Rattle.std.proofs.Common.{refl}
use Rattle.olk_spec.specs.Names.{is_empty}
use Rattle.olk_spec.specs.Faults.{Fault}
use Rattle.olk_meaning.specs.Chosen.{if_then_form, if_else_form, if_then_else_form}
use Rattle.olk_tree.specs.Answers.{AnswersOver}
use Rattle.olk_tree.specs.Questions.{always, conditional}
use Rattle.olk_tree.specs.Shown.{if_tree}
use Rattle.olk_tree.specs.declared.if_.IfThen.{IfThen}
use Rattle.olk_tree.specs.declared.if_.IfElse.{IfElse}
use Rattle.olk_tree.specs.declared.if_.IfThenElse.{IfThenElse}

pub cases_agree : (b : Bool) (fs gs : List Fault) {x y : Bool} → is_empty fs ≡ x → is_empty gs ≡ y → is_empty (cond b fs gs) ≡ cond b x y
cases_agree true fs gs e f = e
cases_agree false fs gs e f = f

module _ {N : Type 0} where
  abbrev pub if_then_answers : IfThen N → AnswersOver N
  if_then_answers k = record {
    means = λ m v. conditional (m k.schema v) (m k.then_schema v) (always true);
    report = λ m r u v Q. cond ((m k.schema v).accepts u) (r k.then_schema u v Q) [];
    agrees = λ m r u h v Q. cases_agree ((m k.schema v).accepts u) (r k.then_schema u v Q) [] (h k.then_schema v Q) refl;
    first = λ m r s u v Q. cond ((m k.schema v).accepts u) (s k.then_schema u v Q) [];
    first_agrees = λ m r s u h v Q. cases_agree ((m k.schema v).accepts u) (s k.then_schema u v Q) [] (h k.then_schema v Q) refl;
    tree = λ m t u v Q. if_tree (λ n. t n u) v Q ((m k.schema v).accepts u) k.location k.schema (k.then_schema ∷ []) [];
    location = k.location;
    formed = λ f. f k.schema && f k.then_schema;
    forms = λ f. (k.location, if_then_form) ∷ f k.schema ++ f k.then_schema;
  }

  abbrev pub if_else_answers : IfElse N → AnswersOver N
  if_else_answers k = record {
    means = λ m v. conditional (m k.schema v) (always true) (m k.else_schema v);
    report = λ m r u v Q. cond ((m k.schema v).accepts u) [] (r k.else_schema u v Q);
    agrees = λ m r u h v Q. cases_agree ((m k.schema v).accepts u) [] (r k.else_schema u v Q) refl (h k.else_schema v Q);
    first = λ m r s u v Q. cond ((m k.schema v).accepts u) [] (s k.else_schema u v Q);
    first_agrees = λ m r s u h v Q. cases_agree ((m k.schema v).accepts u) [] (s k.else_schema u v Q) refl (h k.else_schema v Q);
    tree = λ m t u v Q. if_tree (λ n. t n u) v Q ((m k.schema v).accepts u) k.location k.schema [] (k.else_schema ∷ []);
    location = k.location;
    formed = λ f. f k.schema && f k.else_schema;
    forms = λ f. (k.location, if_else_form) ∷ f k.schema ++ f k.else_schema;
  }

  abbrev pub if_then_else_answers : IfThenElse N → AnswersOver N
  if_then_else_answers k = record {
    means = λ m v. conditional (m k.schema v) (m k.then_schema v) (m k.else_schema v);
    report = λ m r u v Q. cond ((m k.schema v).accepts u) (r k.then_schema u v Q) (r k.else_schema u v Q);
    agrees = λ m r u h v Q. cases_agree ((m k.schema v).accepts u) (r k.then_schema u v Q) (r k.else_schema u v Q) (h k.then_schema v Q) (h k.else_schema v Q);
    first = λ m r s u v Q. cond ((m k.schema v).accepts u) (s k.then_schema u v Q) (s k.else_schema u v Q);
    first_agrees = λ m r s u h v Q. cases_agree ((m k.schema v).accepts u) (s k.then_schema u v Q) (s k.else_schema u v Q) (h k.then_schema v Q) (h k.else_schema v Q);
    tree = λ m t u v Q. if_tree (λ n. t n u) v Q ((m k.schema v).accepts u) k.location k.schema (k.then_schema ∷ []) (k.else_schema ∷ []);
    location = k.location;
    formed = λ f. f k.schema && f k.then_schema && f k.else_schema;
    forms = λ f. (k.location, if_then_else_form) ∷ f k.schema ++ f k.then_schema ++ f k.else_schema;
  }
