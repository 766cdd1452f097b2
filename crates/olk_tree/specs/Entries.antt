-- Names in order, and what stands at each, as maps lend them.
use Rattle.std.specs.Prelude.{◌≡◌, ℕ, List, [], ◌∷◌, Option, MatchOption}
use denote.Ref.{Bor}
use Rattle.std.specs.List.{zip}
use Rattle.olk_spec.specs.Names.{Name}
use Rattle.olk_tree.specs.Sorted.{names_of}
use Rattle.olk_tree.specs.declared.entries.EachEntry.{EachEntry}

module _ {N : Type 0} where
  -- what is left of a walk over the entries
  abbrev pub each_left : EachEntry N → List (Name × N)
  each_left w = zip (names_of w.names.rest.now) w.nodes.rest.now

  -- a call yields the first of what is left, or nothing where nothing is left
  abbrev pub NextEntry : Option (Bor (List ℕ) × Bor N) → List (Name × N) → List (Name × N) → Type 0
  NextEntry r old new = MatchOption r (old ≡ []) (λ m. old ≡ (m.0.now, m.1.now) ∷ new)
