-- What a place that stands for a schema tells is of the schema's reports.
use Rattle.std.proofs.Common.{◌≡◌, Bool, true, List, sym, ◌∙◌}
use Rattle.serde_json.specs.Data.{Data}
use Rattle.olk_spec.specs.Names.{Path}
use Rattle.olk_spec.specs.Faults.{Fault, like_through}
use Rattle.olk_spec.specs.Meaning.{accepts, report}
use Rattle.olk_reports.specs.declared.error.ValidationError.{ValidationError}
use Rattle.olk_base.specs.Kit.{Kit}
use Rattle.object_logic.specs.Nodes.{answers, StandsFor}
use Rattle.object_logic.specs.declared.node.SchemaNode.{SchemaNode}
use Rattle.olk_errors.specs.Found.{Appends, Outcome, Passes, IsErrorOf, IsRefusal}
use Rattle.olk_errors.proofs.Appending.{appends_like}
use Rattle.olk_errors.proofs.Kept.{kept_of_like}

module _ {K R : Type 0} (o : Kit K R) (n : SchemaNode K R) (u : Bool) (v : Data) (Q : Path) where
  abbrev pub node_outcome : Outcome
  node_outcome = record { accepts = ((answers o n).means v).accepts u; first = (answers o n).first u v Q; all = (answers o n).report u v Q }

  pub report_of_schema : {old new : List ValidationError} → Appends old new ((answers o n).report u v Q) → (S : Data) (P : Path) → StandsFor o n S P → Appends old new (report o.world u S v P Q)
  report_of_schema a S P s = appends_like (s.faults u v Q) a

  pub accepts_of_schema : Passes node_outcome → (S : Data) (P : Path) → StandsFor o n S P → accepts o.world u S v ≡ true
  accepts_of_schema passes S P s = sym (s.verdict u v) ∙ passes.verdict

  pub refusal_of_schema : (f : Fault) → IsErrorOf node_outcome f → (S : Data) (P : Path) → StandsFor o n S P → IsRefusal o.world u S v P Q f
  refusal_of_schema f told S P s =
      let k = kept_of_like ((answers o n).report u v Q) f told.of_all in
      record {
        verdict = sym (s.verdict u v) ∙ told.verdict;
        of_report = record { whole = k.whole; list = k.list; report = like_through k.alike (s.faults u v Q); among = k.among; told = k.told };
      }
