-- The text of a value.
use Rattle.serde_json.specs.Data.{Data}
use Rattle.serde_json.specs.Written.{compact_text}
use Rattle.olk_spec.specs.Names.{Text}

-- compact JSON
unfoldable pub json_text : Data → Text
json_text d = compact_text d
