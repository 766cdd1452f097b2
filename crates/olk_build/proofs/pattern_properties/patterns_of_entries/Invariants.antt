use Rattle.serde_json.specs.View.{members_view}
use Rattle.olk_spec.specs.Schemas.{listed}
use Rattle.olk_base.specs.Kit.{kit}
use Rattle.olk_build.proofs.ReadPatterns.{PatternsSoFar}
use Rattle.olk_build.proofs.pattern_properties.patterns_of_entries.Given as goal

-- the patterns so far are those of the entries so far
abbrev pub invariant-loop-pattern : goal.invariant-loop-pattern
invariant-loop-pattern g l = record {
  so_far : PatternsSoFar (kit g.L.Leaf.Leaf g.M.Engine.RegexEngine) l.location (listed (members_view l.entries.entries)) l.fn.meter l.patterns.items (listed (members_view l.pattern-iterator)) l.meter;
  next : (goal.iterator-loop-pattern g).can_next l.pattern-iterator;
  ends : (goal.iterator-loop-pattern g).is_finite l.pattern-iterator;
}
