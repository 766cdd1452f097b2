-- `not`: what its validator answers.
use Rattle.std.specs.Prelude.{◌≡◌, Bool, List, ◌∷◌}
use Rattle.serde_json.specs.Data.{Data}
use Rattle.serde_json.specs.View.{view}
use Rattle.olk_spec.specs.Names.{Path, is_empty}
use Rattle.olk_spec.specs.Faults.{Fault, Not as not_allowed}
use Rattle.olk_spec.specs.Reports.{fault_if}
use Rattle.olk_spec.specs.Tree.{erring}
use Rattle.olk_meaning.specs.Chosen.{not_form}
use Rattle.olk_tree.specs.Answers.{AnswersOver, Meanings}
use Rattle.olk_tree.specs.OwnFaults.{fault_if_agrees}
use Rattle.olk_tree.specs.Questions.{opposite}
use Rattle.olk_tree.specs.declared.not.Not.{Not}

module _ {N : Type 0} (k : Not N) where
  -- its fault, whatever the node finds
  abbrev pub not_report : Meanings N → Bool → Data → Path → List Fault
  not_report m u v Q = fault_if ((m k.node v).accepts u) (not_allowed (view k.original)) v k.location Q

  pub not_agrees : (m : Meanings N) (u : Bool) (v : Data) (Q : Path) → is_empty (not_report m u v Q) ≡ (opposite (m k.node v)).accepts u
  not_agrees m u v Q = fault_if_agrees ((m k.node v).accepts u) (not_allowed (view k.original)) v k.location Q

  abbrev pub not_answers : AnswersOver N
  not_answers = record {
    means = λ m v. opposite (m k.node v);
    report = λ m r. not_report m;
    agrees = λ m r u h. not_agrees m u;
    first = λ m r s. not_report m;
    first_agrees = λ m r s u h. not_agrees m u;
    tree = λ m t u v Q. erring k.location Q (not_report m u v Q);
    location = k.location;
    formed = λ f. f k.node;
    forms = λ f. (k.location, not_form) ∷ f k.node;
  }
