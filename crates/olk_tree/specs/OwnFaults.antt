-- Validators that find a fault of their own where they refuse.
use Rattle.std.specs.Prelude.{◌≡◌, Bool, not, List}
use Rattle.std.proofs.Common.{sym, ◌∙◌}
use Rattle.std.proofs.Math.Bool.{not-not}
use Rattle.serde_json.specs.Data.{Data}
use Rattle.olk_spec.specs.Names.{Path, is_empty}
use Rattle.olk_spec.specs.Faults.{Fault, Kind}
use Rattle.olk_spec.specs.Reports.{fault_if}
use Rattle.olk_spec.specs.Tree.{Tree}
use Rattle.olk_meaning.specs.Chosen.{Placed}
use Rattle.olk_spec.proofs.Verdicts.{none_if}
use Rattle.olk_tree.specs.Answers.{AnswersOver, Meanings, Findings, Showings}
use Rattle.olk_tree.specs.Questions.{Question}

-- one fault, unless it accepts
abbrev pub unless : Bool → Kind → Data → Path → Path → List Fault
unless b k v P Q = fault_if (not b) k v P Q

module _ (b : Bool) (k : Kind) (v : Data) (P Q : Path) where
  pub fault_if_agrees : is_empty (fault_if b k v P Q) ≡ not b
  fault_if_agrees = sym (none_if b k v P Q)

  pub unless_agrees : is_empty (unless b k v P Q) ≡ b
  unless_agrees = sym (none_if (not b) k v P Q) ∙ not-not b

-- what it means, the kind of its fault, what it shows, whether it has its form, and which validators stand there
pub record OwnFault (N : Type 0) : Type 0 where
  pub means : Meanings N → Data → Question
  pub kind : Findings N → Bool → Data → Path → Kind
  pub tree : Meanings N → Showings N → Bool → Data → Path → Tree
  pub formed : (N → Bool) → Bool
  pub forms : (N → List Placed) → List Placed

abbrev pub own_fault_answers : {N : Type 0} → Path → OwnFault N → AnswersOver N
own_fault_answers P w = record {
  means = w.means;
  report = λ m r u v Q. unless ((w.means m v).accepts u) (w.kind r u v Q) v P Q;
  agrees = λ m r u h v Q. unless_agrees ((w.means m v).accepts u) (w.kind r u v Q) v P Q;
  first = λ m r s u v Q. unless ((w.means m v).accepts u) (w.kind r u v Q) v P Q;
  first_agrees = λ m r s u h v Q. unless_agrees ((w.means m v).accepts u) (w.kind r u v Q) v P Q;
  tree = w.tree;
  location = P;
  formed = w.formed;
  forms = w.forms;
}
