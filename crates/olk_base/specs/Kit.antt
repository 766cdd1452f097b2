-- A leaf type K and a matcher type R, by what their traits' contracts say of them: `kit K.Leaf R.RegexEngine`.
use Rattle.std.specs.Prelude.{Bool, List}
use Rattle.serde_json.specs.Data.{Data}
use Rattle.olk_spec.specs.Names.{Text, Name}
use Rattle.olk_spec.specs.World.{World, Says}
use Rattle.olk_base.specs.declared.traits.Leaf as leaf
use Rattle.olk_base.specs.declared.traits.RegexEngine as engine

pub record Kit (K R : Type 0) : Type 0 where
  -- what a leaf keyword and a pattern are
  pub world : World
  -- which keyword a leaf is, and what it says of a value
  pub keyword_of : K → Name
  pub finds : K → Data → List Text
  -- what an engine says of a name, and whether asking it is counted
  pub answers : R → Name → Says
  pub costs : R → Bool

module _ {K R : Type 0} (l : leaf.Ghosts K) (r : engine.Ghosts R) where
  -- what the types say, apart from each leaf and engine
  abbrev pub world : World
  world = record { reads = l.reads; fits = l.fits; faults = l.faults; builds = r.builds; says = r.says }

  abbrev pub kit : Kit K R
  kit = record { world = world; keyword_of = l.keyword_of; finds = l.finds; answers = r.answers; costs = r.costs }
