-- All that worked rows compute with.
use Rattle.std.specs.Fmt.{digits}
use Rattle.std.specs.Str.{chars}
use Rattle.olk_spec.specs.Literals.{literal}
use Rattle.olk_spec.specs.Meaning.{meaning}
use Rattle.olk_spec.specs.Malformed.{malformations_at}
use Rattle.olk_spec.specs.Costs.{cost}
use Rattle.serde_json.proofs.OnLiterals.{serde_json_on_literals}

-- on the `unfolding` line of a proof it stands for those on its own
unfoldable pub computed : Unit {0}
unfolding literal chars digits meaning malformations_at cost serde_json_on_literals
computed = tt
