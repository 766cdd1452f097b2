use Rattle.std.proofs.Common.{refl, ap}
use Rattle.serde_json.specs.View.{view}
use Rattle.olk_spec.specs.Schemas.{is_object}
use Rattle.olk_base.specs.Kit.{kit, world}
use Rattle.olk_build.proofs.Spending.{exit_with, tells_left}
use Rattle.olk_build.proofs.Read.{refuses_own}
use Rattle.olk_build.proofs.ReadPatterns.{refuses_patterns, patterns_are_read}
use Rattle.olk_build.specs.declared.reading.KeywordFor.TheVariants as for
use Rattle.olk_build.proofs.pattern_properties.shape_of_patterns.Goals as goal

pub returns-in_err-entries-clause-refused : goal.returns-in_err-entries-clause-refused
returns-in_err-entries-clause-refused g c = exit_with _ _ _ c.from_residual.ensures.1 (refuses_own (world g.L.Leaf.Leaf g.M.Engine.RegexEngine) _ (view c.args.value.now) c.args.location.now {w = for.PatternProperties} refl refl (tells_left _ _ _ c.in_err-entries.ensures.refused))

pub returns-in_err-patterns-clause-refused : goal.returns-in_err-patterns-clause-refused
returns-in_err-patterns-clause-refused g c =
    exit_with _ _ _ c.from_residual-in_err-patterns.ensures.1 (refuses_patterns (kit g.L.Leaf.Leaf g.M.Engine.RegexEngine) (view c.args.value.now) c.args.location.now (ap is_object c.in_ok-entries.ensures.object)
    (rw c.in_ok-entries.ensures.object c.in_err-patterns.ensures.refused))

pub returns-clause-built : goal.returns-clause-built
returns-clause-built g c =
    patterns_are_read (kit g.L.Leaf.Leaf g.M.Engine.RegexEngine) (view c.args.value.now) c.args.location.now (ap is_object c.in_ok-entries.ensures.object) c.in_ok-patterns.patterns (rw c.in_ok-entries.ensures.object c.in_ok-patterns.ensures.read)
