use Rattle.std.proofs.Common.{inl}
use Rattle.serde_json.specs.Data.{null}
use Rattle.olk.proofs.program.check_by_file.Goals as goal

-- with any schema, where none is read
pub returns-in-None : goal.returns-in-None
returns-in-None g c =
    let failed = rw c.in-None.is at c.in_ok-document.ensures in
    (null, inl (rw c.requires at failed))
