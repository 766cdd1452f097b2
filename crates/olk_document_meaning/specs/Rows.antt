-- What a member of a schema object means, shows, refuses and costs as a keyword of a document.
use Rattle.std.specs.Prelude.{ℕ, Bool, List}
use Rattle.serde_json.specs.Data.{Data, Members}
use Rattle.olk_spec.specs.Names.{Name, Path}
use Rattle.olk_spec.specs.World.{World}
use Rattle.olk_spec.specs.Faults.{Fault}
use Rattle.olk_spec.specs.Tree.{Tree}
use Rattle.olk_spec.specs.Costs.{Cost}
use Rattle.olk_spec.specs.Schemas.{Keywords, Part, read, read_members}
use Rattle.olk_spec.specs.Meanings.{Meaning}
use Rattle.olk_meaning.specs.Chosen.{Placed}
use Rattle.olk_document_spec.specs.Applied.{document_accepts, document_asks, document_report, document_child}
use Rattle.olk_document_spec.specs.Keywords.{document_keyword}
use Rattle.olk_document_spec.specs.Malformed.{document_malformed, document_malformations_step}
use Rattle.olk_document_spec.specs.Steps.{document_step}
use Rattle.olk_document_meaning.specs.Places.{Referred, document_cost, document_cost_step, document_standing, document_standing_step}

-- m is a member of the schema object with the members ms
module _ (W : World) (R : Referred) (ms : Members) (m : Name × Data) where
  module _ (u : Bool) where
    abbrev step : Data → Part Meaning
    step = read (document_step W u (R.means u))

    abbrev beside : Keywords Meaning
    beside = read_members (document_step W u (R.means u)) ms

    abbrev pub row_accepts : Data → Bool
    row_accepts v = document_accepts (R.means u) beside m.0 (step m.1) v (document_keyword m.0)

    abbrev pub row_asks : Data → ℕ
    row_asks v = document_asks (R.means u) beside m.0 (step m.1) v (document_keyword m.0)

    abbrev pub row_report : Data → Path → Path → List Fault
    row_report v P Q = document_report (R.means u) beside m.0 (step m.1) v P Q (document_keyword m.0)

    abbrev pub row_child : Data → Path → Path → List Tree
    row_child v P Q = document_child (R.means u) beside m.0 (step m.1) v P Q (document_keyword m.0)

  abbrev pub row_malformations : Path → List Fault
  row_malformations P = document_malformed R.refuses m.0 (read (document_malformations_step W R.refuses) m.1) P (document_keyword m.0)

  abbrev pub row_cost : Cost
  row_cost = document_cost m.0 (read (document_cost_step W) m.1) (document_keyword m.0)

  abbrev pub row_standing : Path → List Placed
  row_standing P = document_standing R.stands m.0 (read (document_standing_step R.stands W) m.1) P (document_keyword m.0)
