-- Laws of the meaning.
use Rattle.std.specs.Prelude.{◌≡◌, ◌↔◌, Bool, true, false, List, [], codes}
use Rattle.serde_json.specs.Data.{Data, array, object, no_items, item, no_members, member}
use Rattle.olk_spec.specs.Names.{Name, Path, is_empty}
use Rattle.olk_spec.specs.World.{World}
use Rattle.olk_spec.specs.Faults.{Fault}
use Rattle.olk_spec.specs.Schemas.{is_object}
use Rattle.olk_spec.specs.Tree.{is_valid}
use Rattle.olk_spec.specs.Distinct.{DistinctNames}
use Rattle.olk_spec.specs.Meaning.{accepts, report, tree, IsReport}

-- the schema object with one keyword
abbrev pub only : Name → Data → Data
only k d = object (member k d no_members)

-- a schema accepts exactly where it finds no fault
abbrev pub Verdict_of_reports : Type 0
Verdict_of_reports = (W : World) (u : Bool) (S v : Data) (P Q : Path) → accepts W u S v ≡ is_empty (report W u S v P Q)

-- it accepts exactly if the empty list is a report, and then that is the only one
abbrev pub Empty_report : Type 0
Empty_report = (W : World) (u : Bool) (S v : Data) (P Q : Path) → (accepts W u S v ≡ true) ↔ IsReport W u S v P Q []

abbrev pub Only_report : Type 0
Only_report = (W : World) (u : Bool) (S v : Data) (P Q : Path) (list : List Fault) → accepts W u S v ≡ true → IsReport W u S v P Q list → list ≡ []

abbrev pub Not_not : Type 0
Not_not = (W : World) (u : Bool) (S v : Data) → accepts W u (only (codes "not") (only (codes "not") S)) v ≡ accepts W u S v

-- with one branch
abbrev pub One_branch : Name → Type 0
One_branch k = (W : World) (u : Bool) (S v : Data) → accepts W u (only k (array (item S no_items))) v ≡ accepts W u S v

-- a value that is no object passes a keyword, whatever the keyword's value
abbrev pub Passes : Name → Type 0
Passes k = (W : World) (u : Bool) (d v : Data) → is_object v ≡ false → accepts W u (only k d) v ≡ true

-- the tree is valid exactly where the schema accepts
abbrev pub Verdict_of_trees : Type 0
Verdict_of_trees = (W : World) (u : Bool) (S v : Data) (P Q : Path) → DistinctNames S → DistinctNames v → is_valid (tree W u S v P Q) ≡ accepts W u S v
