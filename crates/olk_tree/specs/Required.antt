-- `required`: what its validator answers.
use Rattle.std.specs.Prelude.{true, [], ◌∷◌}
use Rattle.olk_spec.specs.Names.{is_empty}
use Rattle.olk_spec.specs.Accepts.{missing}
use Rattle.olk_spec.specs.Reports.{required_faults}
use Rattle.olk_spec.specs.Tree.{erring}
use Rattle.olk_spec.proofs.Tree_verdicts.{none_missing}
use Rattle.olk_meaning.specs.Chosen.{required_form}
use Rattle.olk_tree.specs.Answers.{Answers}
use Rattle.olk_tree.specs.Emptiness.{head_agrees}
use Rattle.olk_tree.specs.Firsts.{head_of}
use Rattle.olk_tree.specs.Maps.{texts_of}
use Rattle.olk_tree.specs.Questions.{always}
use Rattle.olk_tree.specs.declared.required.RequiredValidator.{RequiredValidator}

abbrev pub required_answers : RequiredValidator → Answers
required_answers k = record {
  means = λ v. always (is_empty (missing (texts_of k.required.items) v));
  report = λ u v Q. required_faults (texts_of k.required.items) v k.location Q;
  agrees = λ u v Q. none_missing (texts_of k.required.items) v k.location Q;
  first = λ u v Q. head_of (required_faults (texts_of k.required.items) v k.location Q);
  first_agrees = λ u v Q. head_agrees (required_faults (texts_of k.required.items) v k.location Q) (none_missing (texts_of k.required.items) v k.location Q);
  tree = λ u v Q. erring k.location Q (required_faults (texts_of k.required.items) v k.location Q);
  location = k.location;
  formed = true;
  forms = (k.location, required_form) ∷ [];
}
