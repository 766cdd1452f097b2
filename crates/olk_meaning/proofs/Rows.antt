-- Names and what stands under them, in order.
use Rattle.std.specs.Prelude.{List}
use Rattle.serde_json.specs.Data.{Data}
use Rattle.olk_spec.specs.Names.{Name}

abbrev pub Rows : Type 0
Rows = List (Name × Data)
