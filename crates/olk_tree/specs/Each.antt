-- Validators that ask each of some nodes of the whole value.
use Rattle.std.specs.Prelude.{Bool, List}
use Rattle.std.specs.List.{flat_map}
use Rattle.serde_json.specs.Data.{Data}
use Rattle.olk_spec.specs.Names.{Path}
use Rattle.olk_spec.specs.Tree.{plain}
use Rattle.olk_meaning.specs.Chosen.{Placed}
use Rattle.olk_tree.specs.Answers.{AnswersOver}
use Rattle.olk_tree.specs.Emptiness.{each_agrees, first_of_agrees}
use Rattle.olk_tree.specs.Firsts.{first_of}
use Rattle.olk_tree.specs.Questions.{every}
use Rattle.olk_tree.specs.Shown.{branch_trees}

abbrev pub each_answers : {N : Type 0} → (Data → List N) → Path → ((N → Bool) → Bool) → ((N → List Placed) → List Placed) → AnswersOver N
each_answers nodes P formed forms = record {
  means = λ m v. every (λ n. m n v) (nodes v);
  report = λ m r u v Q. flat_map (λ n. r n u v Q) (nodes v);
  agrees = λ m r u h v Q. each_agrees (λ n. r n u v Q) (λ n. m n v) u (λ n. h n v Q) (nodes v);
  first = λ m r s u v Q. first_of (λ n. s n u v Q) (nodes v);
  first_agrees = λ m r s u h v Q. first_of_agrees (λ n. s n u v Q) (λ n. m n v) u (λ n. h n v Q) (nodes v);
  tree = λ m t u v Q. plain P Q (branch_trees (λ n. t n u) v Q (nodes v));
  location = P;
  formed = formed;
  forms = forms;
}
