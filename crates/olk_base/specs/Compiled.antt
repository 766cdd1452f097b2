-- What a compiled pattern says of a name, and whether asking it is counted.
use Rattle.std.specs.Prelude.{Bool, true, false, map, cond, string_bytes}
use Rattle.std.specs.Option.{option_map_or}
use Rattle.olk_spec.specs.Names.{Text, Name}
use Rattle.olk_spec.specs.World.{World, Says, matched, unmatched}
use Rattle.olk_spec.specs.Literals.{Literal, literal, starts_with_text, ends_with_text, equals_text, is_one_of, has_no_whitespace, passes}
use Rattle.olk_base.specs.declared.pattern.CompiledPattern.{CompiledPattern}
use Rattle.olk_base.specs.declared.pattern.CompiledPattern.TheVariants.{Prefix, Suffix, Exact, Alternation, NoWhitespace, Regex}
use Rattle.olk_base.specs.declared.analysis.PatternOptimization.{PatternOptimization}
use Rattle.olk_base.specs.declared.analysis.PatternOptimization.TheVariants as test
use Rattle.olk_base.specs.Count.{Counts, count_made}

-- a pattern that stands for a test builds, and any other where the matcher builds it
abbrev pub pattern_builds : World → Text → Bool
pattern_builds W p = option_map_or (λ l. true) (literal p) (W.builds p)

abbrev pub answer_by : Literal → Name → Says
answer_by l n = cond (passes l n) matched unmatched

abbrev pub pattern_answers : {R : Type 0} → (R → Name → Says) → CompiledPattern R → Name → Says
pattern_answers answers (Prefix s) n = answer_by (starts_with_text (string_bytes s)) n
pattern_answers answers (Suffix s) n = answer_by (ends_with_text (string_bytes s)) n
pattern_answers answers (Exact s) n = answer_by (equals_text (string_bytes s)) n
pattern_answers answers (Alternation v) n = answer_by (is_one_of (map string_bytes v.items)) n
pattern_answers answers NoWhitespace n = answer_by has_no_whitespace n
pattern_answers answers (Regex r) n = answers r n

-- a test that an analysed pattern is seen as
abbrev pub compiled_test : {R : Type 0} → PatternOptimization → CompiledPattern R
compiled_test (test.Prefix s) = Prefix s
compiled_test (test.Suffix s) = Suffix s
compiled_test (test.Exact s) = Exact s
compiled_test (test.Alternation v) = Alternation v
compiled_test test.NoWhitespace = NoWhitespace

-- a pattern that stands for no test is made an engine of
abbrev pub count_open : Text → Counts → Counts
count_open p c = option_map_or (λ l. c) (literal p) (count_made c)

-- only an engine costs
abbrev pub pattern_costs : {R : Type 0} → (R → Bool) → CompiledPattern R → Bool
pattern_costs costs (Prefix s) = false
pattern_costs costs (Suffix s) = false
pattern_costs costs (Exact s) = false
pattern_costs costs (Alternation v) = false
pattern_costs costs NoWhitespace = false
pattern_costs costs (Regex r) = costs r
