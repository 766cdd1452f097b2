-- The names of kinds as JSON.
use Rattle.std.proofs.Common.{◌≡◌, ◌++◌, ◌∷◌, [], true, refl}
use Rattle.std.specs.List.{list_all}
use Rattle.serde_json.specs.Data.{string}
use Rattle.serde_json.specs.Written.{compact_text}
use Rattle.olk_base.specs.declared.node.JsonType.TheVariants as type
use Rattle.olk_base.specs.Plain.{is_plain}
use Rattle.olk_base.proofs.Plain.{compact_text-plain}
use Rattle.olk_bench.specs.declared.leaf.ValueKind.{ValueKind}
use Rattle.olk_bench.specs.declared.leaf.ValueKind.TheVariants as kind
use Rattle.olk_bench.specs.Leaves.{kind_name}

kind_name-plain : (k : ValueKind) → list_all is_plain (kind_name k) ≡ true
kind_name-plain kind.Integer = refl
kind_name-plain (kind.Of type.Null) = refl
kind_name-plain _ = refl

pub kind_in_quotes : (k : ValueKind) → compact_text (string (kind_name k)) ≡ 34 ∷ (kind_name k ++ 34 ∷ [])
kind_in_quotes k = compact_text-plain (kind_name k) (kind_name-plain k)
