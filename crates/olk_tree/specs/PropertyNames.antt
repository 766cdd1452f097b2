-- `propertyNames`: what its validators answer.
use Rattle.std.specs.Prelude.{◌≡◌, Bool, true, List, [], ◌∷◌, map}
use Rattle.std.specs.List.{flat_map}
use Rattle.std.proofs.Common.{◌∙◌}
use Rattle.serde_json.specs.Data.{Data, string}
use Rattle.olk_spec.specs.Names.{Path, is_empty}
use Rattle.olk_spec.specs.Faults.{Fault, FalseSchema}
use Rattle.olk_spec.specs.Schemas.{members}
use Rattle.olk_spec.specs.Reports.{wrapped}
use Rattle.olk_spec.specs.Tree.{plain, erring}
use Rattle.olk_spec.proofs.Verdicts.{is_empty-map}
use Rattle.olk_meaning.specs.Chosen.{property_names_form, no_names_form}
use Rattle.olk_tree.specs.Answers.{Answers, AnswersOver, Meanings, Findings, Agree}
use Rattle.olk_tree.specs.Emptiness.{each_agrees, first_of_agrees}
use Rattle.olk_tree.specs.Firsts.{first_of}
use Rattle.olk_tree.specs.OwnFaults.{unless, unless_agrees}
use Rattle.olk_tree.specs.Questions.{Question, always, every}
use Rattle.olk_tree.specs.Shown.{name_trees}
use Rattle.olk_tree.specs.declared.property_names.PropertyNames.{PropertyNames}
use Rattle.olk_tree.specs.declared.property_names.PropertyNamesFalse.{PropertyNamesFalse}

-- each member's name
abbrev pub names_mean : {N : Type 0} → Meanings N → N → Data → Question
names_mean m n v = every (λ x. m n (string x.0)) (members v)

-- what a node finds at the members' names, told of the object
abbrev pub names_report : {N : Type 0} → Findings N → Bool → N → Data → Path → List Fault
names_report r u n v Q = flat_map (λ x. map (wrapped v Q) (r n u (string x.0) Q)) (members v)

-- and at the first name that is refused
abbrev pub names_first : {N : Type 0} → Findings N → Bool → N → Data → Path → List Fault
names_first s u n v Q = first_of (λ x. map (wrapped v Q) (s n u (string x.0) Q)) (members v)

module _ {N : Type 0} (m : Meanings N) (r : Findings N) (u : Bool) (h : Agree m r u) where
  pub names_agree : (n : N) (v : Data) (Q : Path) → is_empty (names_report r u n v Q) ≡ (names_mean m n v).accepts u
  names_agree n v Q = each_agrees (λ x. map (wrapped v Q) (r n u (string x.0) Q)) (λ x. m n (string x.0)) u (λ x. is_empty-map (wrapped v Q) (r n u (string x.0) Q) ∙ h n (string x.0) Q) (members v)

  pub names_first_agrees : (n : N) (v : Data) (Q : Path) → is_empty (names_first r u n v Q) ≡ (names_mean m n v).accepts u
  names_first_agrees n v Q = first_of_agrees (λ x. map (wrapped v Q) (r n u (string x.0) Q)) (λ x. m n (string x.0)) u (λ x. is_empty-map (wrapped v Q) (r n u (string x.0) Q) ∙ h n (string x.0) Q) (members v)

abbrev pub property_names_answers : {N : Type 0} → PropertyNames N → AnswersOver N
property_names_answers k = record {
  means = λ m v. names_mean m k.node v;
  report = λ m r u v Q. names_report r u k.node v Q;
  agrees = λ m r u h v Q. names_agree m r u h k.node v Q;
  first = λ m r s u v Q. names_first s u k.node v Q;
  first_agrees = λ m r s u h v Q. names_first_agrees m s u h k.node v Q;
  tree = λ m t u v Q. plain k.location Q (name_trees (λ n. t n u) v Q k.node);
  location = k.location;
  formed = λ f. f k.node;
  forms = λ f. (k.location, property_names_form) ∷ f k.node;
}

abbrev pub property_names_false_answers : PropertyNamesFalse → Answers
property_names_false_answers k = record {
  means = λ v. always (is_empty (members v));
  report = λ u v Q. unless (is_empty (members v)) FalseSchema v k.location Q;
  agrees = λ u v Q. unless_agrees (is_empty (members v)) FalseSchema v k.location Q;
  first = λ u v Q. unless (is_empty (members v)) FalseSchema v k.location Q;
  first_agrees = λ u v Q. unless_agrees (is_empty (members v)) FalseSchema v k.location Q;
  tree = λ u v Q. erring k.location Q (unless (is_empty (members v)) FalseSchema v k.location Q);
  location = k.location;
  formed = true;
  forms = (k.location, no_names_form) ∷ [];
}
