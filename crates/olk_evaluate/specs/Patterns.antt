-- The members whose names patterns match, each with what stands at the pattern.
use Rattle.std.specs.Prelude.{Bool, List}
use Rattle.std.specs.List.{flat_map}
use Rattle.serde_json.specs.Data.{Data}
use Rattle.olk_spec.specs.Names.{Name}
use Rattle.olk_spec.specs.World.{Says}
use Rattle.olk_base.specs.declared.pattern.CompiledPattern.{CompiledPattern}
use Rattle.olk_tree.specs.Matched.{matched}
use Rattle.olk_tree.specs.Visited.{Declared, declared_as}

module _ {R N : Type 0} (answers : R → Name → Says) (u : Bool) where
  -- those of one pattern
  abbrev pub matches_of : CompiledPattern R → N → Data → List (Declared N)
  matches_of p n v = flat_map (λ x. declared_as x.0 n x.1) (matched answers u p v)

  -- pattern by pattern
  abbrev pub matches_of_all : List (CompiledPattern R × N) → Data → List (Declared N)
  matches_of_all es v = flat_map (λ e. matches_of e.0 e.1 v) es
