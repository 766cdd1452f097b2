-- Nothing is appended exactly where the schema accepts.
use Rattle.std.proofs.Common.{◌≡◌, Bool, List, length, sym, ◌∙◌}
use Rattle.std.specs.Prelude.{nat_eq}
use Rattle.serde_json.specs.Data.{Data}
use Rattle.olk_spec.specs.Names.{Path}
use Rattle.olk_spec.specs.World.{World}
use Rattle.olk_spec.specs.Meaning.{accepts, report}
use Rattle.olk_spec.proofs.Verdicts.{verdict_of_reports}
use Rattle.olk_reports.specs.declared.error.ValidationError.{ValidationError}
use Rattle.olk_errors.specs.Found.{Appends}
use Rattle.olk_errors.proofs.Appending.{appended_none}

pub none_appended : (W : World) (u : Bool) (S v : Data) (P Q : Path) (old new : List ValidationError) → Appends old new (report W u S v P Q) → nat_eq (length new) (length old) ≡ accepts W u S v
none_appended W u S v P Q old new a = appended_none a ∙ sym (verdict_of_reports W u S v P Q)
