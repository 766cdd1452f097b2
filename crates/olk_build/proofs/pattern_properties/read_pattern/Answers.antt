use Rattle.std.proofs.Common.{◌≡◌, ◌⊎◌, false, string_bytes, sym, subst}
use Rattle.olk_base.specs.Kit.{world}
use Rattle.olk_base.specs.Lawful.{matcher, IsRefused}
use Rattle.olk_base.specs.Compiled.{pattern_builds, count_open}
use Rattle.olk_build.proofs.Spending.{tells_same, refuses_memory}
use Rattle.olk_build.proofs.ReadPatterns.{refused_pattern, spends_open_at_most}
use Rattle.olk_build.proofs.pattern_properties.read_pattern.Goals as goal

pub returns-in-Err-Refused-clause-refused : goal.returns-in-Err-Refused-clause-refused
returns-in-Err-Refused-clause-refused g c = record {
  tells = tells_same (sym (refused_pattern (world g.L.Leaf.Leaf g.M.Engine.RegexEngine) (string_bytes c.args.pattern.now) c.args.location.now
      (subst (λ n. pattern_builds (matcher g.M.Engine.RegexEngine.builds g.M.Engine.RegexEngine.says) n ≡ false) c.as_str.ensures.value
      (c.in-Err-Refused.ensures.refused (subst IsRefused (sym c.in-Err-Refused.field-0-is) tt))))) c.refuse_pattern.result c.refuse_pattern.ensures;
  spends =
      spends_open_at_most (world g.L.Leaf.Leaf g.M.Engine.RegexEngine) (string_bytes c.args.pattern.now) c.args.meter.now c.compile_pattern.new.meter
      (subst (λ n. (c.compile_pattern.new.meter ≡ c.args.meter.now) ⊎ (c.compile_pattern.new.meter ≡ count_open n c.args.meter.now)) c.as_str.ensures.value c.in-Err-Refused.ensures.made_at_most);
}

pub returns-in-Err-Memory-clause-refused : goal.returns-in-Err-Memory-clause-refused
returns-in-Err-Memory-clause-refused g c = refuses_memory (spends_open_at_most (world g.L.Leaf.Leaf g.M.Engine.RegexEngine)
    (string_bytes c.args.pattern.now) c.args.meter.now c.compile_pattern.new.meter (subst (λ n. (c.compile_pattern.new.meter ≡ c.args.meter.now) ⊎
    (c.compile_pattern.new.meter ≡ count_open n c.args.meter.now)) c.as_str.ensures.value c.in-Err-Memory.ensures.made_at_most)) _ c.from.ensures
