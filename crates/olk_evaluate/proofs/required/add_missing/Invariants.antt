use Rattle.std.proofs.Common.{map, drop}
use Rattle.serde_json.specs.Data.{object}
use Rattle.serde_json.specs.View.{members_view}
use Rattle.olk_base.specs.Nodes.{subject_data}
use Rattle.olk_spec.specs.Names.{Path}
use Rattle.olk_spec.specs.Faults.{fault, Required}
use Rattle.olk_spec.specs.Accepts.{missing}
use Rattle.olk_reports.specs.Evaluations.{shown_of}
use Rattle.olk_tree.specs.Maps.{texts_of}
use Rattle.olk_evaluate.proofs.OwnErrors.{ErrorsFrom}
use Rattle.olk_evaluate.proofs.required.add_missing.Given as goal

abbrev pub invariant-loop-name : goal.invariant-loop-name
invariant-loop-name l =
    (P Q : Path) → ErrorsFrom (map (λ n. fault (Required n) (subject_data l.node) Q P) (missing (texts_of l.required.required.items) (object (members_view l.members.entries))))
    (map (λ n. fault (Required n) (subject_data l.node) Q P) (missing (texts_of (drop l.name-index l.required.required.items)) (object (members_view l.members.entries))))
    (shown_of l.initial.outcome) (shown_of l.outcome)
