-- What is told of a line that is refused, and of a schema.
use Rattle.std.specs.Prelude.{codes}
use Rattle.serde_json.specs.Data.{Data, string, object, no_members, member}
use Rattle.olk_spec.specs.Names.{Text, Path}
use Rattle.olk_spec.specs.Faults.{Fault, fault}
use Rattle.olk_spec.specs.Texts.{text}

-- a refusal that has no place in a schema
abbrev pub refusal : Text → Data
refusal why = object (member (codes "refused") (string why) no_members)

-- what is refused of a schema, and where
abbrev pub schema_refusal : Text → Path → Data
schema_refusal message path = object (member (codes "refused") (string message) (member (codes "schemaPath") (string path) no_members))

abbrev pub fault_refusal : Fault → Data
fault_refusal (fault k v Q P) = schema_refusal (text (fault k v Q P)) P
