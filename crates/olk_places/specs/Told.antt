-- What is told of errors, in its order.
use Rattle.std.specs.Prelude.{◌≡◌, ℕ, ◌<◌, ◌++◌, false, List, Option, None, Some, codes, decimal, drop, length, map, slice_index_or, string_bytes, take}
use Rattle.std.specs.List.{All}
use Rattle.std.specs.List.Sorted.{IsPermutation, IsSorted}
use Rattle.serde_json.specs.Data.{Data, number, unsigned, string, array, object, no_members, member}
use Rattle.serde_json.specs.View.{items_of}
use Rattle.serde_json.specs.Written.{compact_text}
use Rattle.olk_spec.specs.Names.{Text}
use Rattle.olk_spec.specs.Texts.{prints_fraction}
use Rattle.olk_reports.specs.Errors.{fault_of}
use Rattle.olk_reports.specs.declared.error.ValidationError.{ValidationError}
use Rattle.olk_answers.specs.Told.{told, told_cmp, PrintNoFraction}
use Rattle.olk_answers.specs.Told as answers
use Rattle.olk_places.specs.declared.told.Told.{Told}

-- without where its texts lie in memory
abbrev pub shown : Told → answers.Told
shown t = record { instance_path = t.instance_path.now; schema_path = t.schema_path.now; message = string_bytes t.message }

-- it is told of the error that it names
pub record IsOf (errors : List ValidationError) (t : Told) : Type 0 where
  pub within : t.index < length errors
  pub tells : (d : ValidationError) → prints_fraction (fault_of (slice_index_or errors t.index d)) ≡ false → shown t ≡ told (fault_of (slice_index_or errors t.index d))

-- all the errors are told, in the order of `told_cmp`, each by the error that it names
pub record AreTold (errors : List ValidationError) (ts : List Told) : Type 0 where
  pub same : PrintNoFraction (map fault_of errors) → IsPermutation (map told (map fault_of errors)) (map shown ts)
  pub ascends : IsSorted told_cmp (map shown ts)
  pub of : All (IsOf errors) ts

-- all the errors are told, in their order
pub record AreToldInTurn (errors : List ValidationError) (ts : List Told) : Type 0 where
  pub same : PrintNoFraction (map fault_of errors) → map shown ts ≡ map told (map fault_of errors)
  pub of : All (IsOf errors) ts

-- an error as JSON, with where it stands and what branches find
abbrev pub located_data : ℕ → ℕ → answers.Told → List Data → Data
located_data line column e context = object (member (codes "column") (number (unsigned column)) (member (codes "context") (array (items_of context)) (member (codes "instancePath") (string e.instance_path) (member (codes "line") (number (unsigned line)) (member (codes "message") (string e.message) (member (codes "schemaPath") (string e.schema_path) no_members))))))

-- these bytes stand at an offset of a text
abbrev pub IsAt : Text → ℕ → Text → Type 0
IsAt text offset bytes = (0 < length bytes) × ((n : ℕ) × (bytes ≡ take n (drop offset text)))

-- what an answer begins with: the version of its form, and the place of its value
abbrev pub head : Text → Option ℕ → Text
head name None = codes "{\"version\":1,\"file\":" ++ (compact_text (string name) ++ codes ",")
head name (Some line) = codes "{\"version\":1,\"file\":" ++ (compact_text (string name) ++ (codes ",\"line\":" ++ (decimal line ++ codes ",")))
