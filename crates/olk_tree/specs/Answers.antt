-- What a node answers, and what a validator answers over the nodes that it holds.
use Rattle.std.specs.Prelude.{◌≡◌, Bool, List}
use Rattle.serde_json.specs.Data.{Data}
use Rattle.olk_spec.specs.Names.{Path, is_empty}
use Rattle.olk_spec.specs.Faults.{Fault}
use Rattle.olk_spec.specs.Tree.{Tree}
use Rattle.olk_meaning.specs.Chosen.{Placed}
use Rattle.olk_tree.specs.Questions.{Question}

-- whether it accepts a value, the faults that it finds, the tree that it shows, whether all that it holds has its form, and which validators stand there and inside
pub record Answers : Type 0 where
  pub means : Data → Question
  pub report : Bool → Data → Path → List Fault
  -- none exactly where it accepts
  pub agrees : (u : Bool) (v : Data) (Q : Path) → is_empty (report u v Q) ≡ (means v).accepts u
  -- those of the first step that refuses, of which `validate` tells one
  pub first : Bool → Data → Path → List Fault
  -- none exactly where it accepts
  pub first_agrees : (u : Bool) (v : Data) (Q : Path) → is_empty (first u v Q) ≡ (means v).accepts u
  pub tree : Bool → Data → Path → Tree
  pub location : Path
  pub formed : Bool
  pub forms : List Placed

-- what nodes mean, find and show
abbrev pub Meanings : Type 0 → Type 0
Meanings N = N → Data → Question

abbrev pub Findings : Type 0 → Type 0
Findings N = N → Bool → Data → Path → List Fault

abbrev pub Showings : Type 0 → Type 0
Showings N = N → Bool → Data → Path → Tree

-- each finds nothing exactly where it accepts
abbrev pub Agree : {N : Type 0} → Meanings N → Findings N → Bool → Type 0
Agree {N = N} m r u = (n : N) (v : Data) (Q : Path) → is_empty (r n u v Q) ≡ (m n v).accepts u

-- the answers of a validator over those of its nodes: over what they mean (m), find (r), find first (s) and show (t)
pub record AnswersOver (N : Type 0) : Type 0 where
  pub means : Meanings N → Data → Question
  pub report : Meanings N → Findings N → Bool → Data → Path → List Fault
  pub agrees : (m : Meanings N) (r : Findings N) (u : Bool) → Agree m r u → (v : Data) (Q : Path) → is_empty (report m r u v Q) ≡ (means m v).accepts u
  pub first : Meanings N → Findings N → Findings N → Bool → Data → Path → List Fault
  pub first_agrees : (m : Meanings N) (r s : Findings N) (u : Bool) → Agree m s u → (v : Data) (Q : Path) → is_empty (first m r s u v Q) ≡ (means m v).accepts u
  pub tree : Meanings N → Showings N → Bool → Data → Path → Tree
  pub location : Path
  pub formed : (N → Bool) → Bool
  pub forms : (N → List Placed) → List Placed

-- it holds no nodes
abbrev pub alone : {N : Type 0} → Answers → AnswersOver N
alone a = record {
  means = λ m. a.means;
  report = λ m r. a.report;
  agrees = λ m r u h. a.agrees u;
  first = λ m r s. a.first;
  first_agrees = λ m r s u h. a.first_agrees u;
  tree = λ m t. a.tree;
  location = a.location;
  formed = λ f. a.formed;
  forms = λ f. a.forms;
}

-- over nodes that have these answers
abbrev pub answered : {N : Type 0} → (N → Answers) → AnswersOver N → Answers
answered a w = record {
  means = w.means (λ n. (a n).means);
  report = w.report (λ n. (a n).means) (λ n. (a n).report);
  agrees = λ u. w.agrees (λ n. (a n).means) (λ n. (a n).report) u (λ n. (a n).agrees u);
  first = w.first (λ n. (a n).means) (λ n. (a n).report) (λ n. (a n).first);
  first_agrees = λ u. w.first_agrees (λ n. (a n).means) (λ n. (a n).report) (λ n. (a n).first) u (λ n. (a n).first_agrees u);
  tree = w.tree (λ n. (a n).means) (λ n. (a n).tree);
  location = w.location;
  formed = w.formed (λ n. (a n).formed);
  forms = w.forms (λ n. (a n).forms);
}
