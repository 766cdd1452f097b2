-- What is told of an evaluation, over lists of annotations and errors.
use Rattle.std.specs.Prelude.{◌≡◌, Bool, false, List, codes, map}
use Rattle.serde_json.specs.Data.{Data, boolean, string, array, object, no_members, member}
use Rattle.serde_json.specs.View.{items_of}
use Rattle.olk_spec.specs.Names.{Name, Path}
use Rattle.olk_spec.specs.Tree.{Described}

-- schema path, instance path and names
abbrev pub annotation_data : Path × Path × List Name → Data
annotation_data (P, Q, ns) = object (member (codes "instancePath") (string Q) (member (codes "names") (array (items_of (map string ns))) (member (codes "schemaPath") (string P) no_members)))

-- schema path, instance path, keyword and text
abbrev pub description_data : Path × Path × Described → Data
description_data (P, Q, (k, t, fraction)) = object (member (codes "instancePath") (string Q) (member (codes "keyword") (string k) (member (codes "message") (string t) (member (codes "schemaPath") (string P) no_members))))

abbrev pub evaluation_data : Bool → List (Path × Path × List Name) → List (Path × Path × Described) → Data
evaluation_data valid ns es = object (member (codes "annotations") (array (items_of (map annotation_data ns))) (member (codes "errors") (array (items_of (map description_data es))) (member (codes "valid") (boolean valid) no_members)))

-- the text of such an error is promised
abbrev pub IsPromised : Path × Path × Described → Type 0
IsPromised (P, Q, (k, t, fraction)) = fraction ≡ false
