-- What is told of a fault, and answers that tell faults.
use Rattle.std.specs.Prelude.{◌≡◌, Bool, true, false, Result, Ok, Err, List, codes, map, string_bytes}
use Rattle.std.specs.List.{All}
use Rattle.std.specs.declared.cmp.Ordering.{Ordering}
use Rattle.std.specs.Ordering.{nat_cmp, ordering_then}
use Rattle.std.specs.Cmp.Lexicographic.{slice_cmp}
use Rattle.std.specs.List.Sorted.{IsPermutation, IsSorted}
use Rattle.serde_json.specs.Data.{Data, boolean, string, array, object, no_members, member}
use Rattle.serde_json.specs.View.{items_of}
use Rattle.olk_spec.specs.Names.{Text, Path}
use Rattle.olk_spec.specs.Faults.{Fault, fault}
use Rattle.olk_spec.specs.Texts.{text, prints_fraction}
use Rattle.olk_reports.specs.Errors.{fault_of}
use Rattle.olk_reports.specs.declared.error.ValidateError.{ValidateError}
use Rattle.olk_reports.specs.declared.error.ValidateError.TheVariants.{Invalid, Memory}
use Rattle.olk_answers.specs.Texts.{json_text}
use Rattle.olk_answers.specs.declared.errors.ToldError.{ToldError}

pub record Told : Type 0 where
  pub instance_path : Path
  pub schema_path : Path
  pub message : Text

abbrev pub told : Fault → Told
told (fault k v Q P) = record { instance_path = Q; schema_path = P; message = text (fault k v Q P) }

-- without where its texts lie in memory
abbrev pub shown : ToldError → Told
shown t = record { instance_path = t.instance_path.now; schema_path = t.schema_path.now; message = string_bytes t.message }

-- by instance path, then by schema path, then by message, in byte order
abbrev pub told_cmp : Told → Told → Ordering
told_cmp a b = ordering_then (slice_cmp nat_cmp a.instance_path b.instance_path) (ordering_then (slice_cmp nat_cmp a.schema_path b.schema_path) (slice_cmp nat_cmp a.message b.message))

abbrev pub verdict : Bool → Data
verdict valid = object (member (codes "valid") (boolean valid) no_members)

abbrev pub error_data : Told → Data
error_data e = object (member (codes "instancePath") (string e.instance_path) (member (codes "message") (string e.message) (member (codes "schemaPath") (string e.schema_path) no_members)))

abbrev pub first_data : Told → Data
first_data e = object (member (codes "error") (error_data e) (member (codes "valid") (boolean false) no_members))

abbrev pub errors_data : Bool → List Told → Data
errors_data valid es = object (member (codes "errors") (array (items_of (map error_data es))) (member (codes "valid") (boolean valid) no_members))

-- the answer tells these errors, sorted
pub record TellsSorted (valid : Bool) (errors : List Told) (answer : Text) : Type 0 where
  pub sorted : List Told
  pub same : IsPermutation errors sorted
  pub ascends : IsSorted told_cmp sorted
  pub is : answer ≡ json_text (errors_data valid sorted)

-- what `validate` gives is told; nothing where there is no memory
abbrev pub TellsFound : Result (Unit {0}) ValidateError → Text → Type 0
TellsFound (Ok accepted) answer = answer ≡ json_text (verdict true)
TellsFound (Err (Invalid e)) answer = prints_fraction (fault_of e) ≡ false → answer ≡ json_text (first_data (told (fault_of e)))
TellsFound (Err (Memory m)) answer = ⊥

-- the texts of all these faults are promised
abbrev pub PrintNoFraction : List Fault → Type 0
PrintNoFraction faults = All (λ f. prints_fraction f ≡ false) faults
