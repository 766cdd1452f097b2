-- The members of an object whose names are declared: each with what stands at its name.
use Rattle.std.specs.Prelude.{◌≡◌, ℕ, Option, MatchOption, cond, String, List, [], ◌∷◌, option_to_list}
use denote.Ref.{Bor}
use Rattle.std.specs.List.{flat_map}
use Rattle.serde_json.specs.Data.{Data, object}
use Rattle.serde_json.specs.View.{view, members_view}
use Rattle.serde_json.specs.declared.value.Value.{Value}
use Rattle.olk_spec.specs.Names.{Name, lookup_name}
use Rattle.olk_spec.specs.Schemas.{listed}
use Rattle.std.specs.declared.alloc.Global.{Global}
use Rattle.olk_tree.specs.declared.declared.DeclaredMembers.{DeclaredMembers}
use Rattle.olk_tree.specs.Entries.{each_left}

-- the value that has these members
abbrev pub object_of : List (String Global × Value) → Data
object_of es = object (members_view es)

pub record Declared (N : Type 0) : Type 0 where
  pub name : Name
  pub node : N
  pub value : Data

module _ {N : Type 0} where
  abbrev pub declared_as : Name → N → Data → List (Declared N)
  declared_as k n v = record { name = k; node = n; value = v } ∷ []

  -- what a walk yields
  abbrev pub seen : Bor (List ℕ) × Bor N × Bor Value → Declared N
  seen m = record { name = m.0.now; node = m.1.now; value = view m.2.now }

  -- a call yields the first of what is left, or nothing where nothing is left
  abbrev pub Yields : Option (Bor (List ℕ) × Bor N × Bor Value) → List (Declared N) → List (Declared N) → Type 0
  Yields r old new = MatchOption r (old ≡ []) (λ m. old ≡ seen m ∷ new)

  -- each member looked up among the declared names
  abbrev pub members_declared : List (Name × N) → List (Name × Data) → List (Declared N)
  members_declared es ms = flat_map (λ m. flat_map (λ n. declared_as m.0 n m.1) (option_to_list (lookup_name m.0 es))) ms

  -- each declared name looked up among the members
  abbrev pub names_met : List (Name × N) → List (Name × Data) → List (Declared N)
  names_met es ms = flat_map (λ e. flat_map (λ v. declared_as e.0 e.1 v) (option_to_list (lookup_name e.0 ms))) es

-- what is left of a walk over the declared members
abbrev pub left_of : {N : Type 0} → DeclaredMembers N → List (Declared N)
left_of w = cond w.by_members (members_declared w.entries (listed (members_view w.left))) (names_met (each_left w.unasked) (listed (members_view w.members.now.entries)))
