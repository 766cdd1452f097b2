-- The test that an analysed pattern is seen as.
use Rattle.std.specs.Prelude.{map, string_bytes}
use Rattle.olk_spec.specs.Literals.{Literal, starts_with_text, ends_with_text, equals_text, is_one_of, has_no_whitespace}
use Rattle.olk_base.specs.declared.analysis.PatternOptimization.{PatternOptimization}
use Rattle.olk_base.specs.declared.analysis.PatternOptimization.TheVariants.{Prefix, Suffix, Exact, Alternation, NoWhitespace}

abbrev pub test_of : PatternOptimization → Literal
test_of (Prefix s) = starts_with_text (string_bytes s)
test_of (Suffix s) = ends_with_text (string_bytes s)
test_of (Exact s) = equals_text (string_bytes s)
test_of (Alternation v) = is_one_of (map string_bytes v.items)
test_of NoWhitespace = has_no_whitespace
