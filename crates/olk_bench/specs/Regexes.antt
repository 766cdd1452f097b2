-- The pattern that a matcher stands for.
use Rattle.std.specs.Prelude.{◌≡◌, ℕ, List, false, string_bytes, encode_utf8_all}
use Rattle.olk_spec.specs.Names.{is_empty}
use Rattle.olk_spec.specs.Bench.{Bench_pattern, has_text, slow_text}
use Rattle.olk_bench.specs.declared.regexes.BenchRegex.{BenchRegex}
use Rattle.olk_bench.specs.declared.regexes.BenchRegex.TheVariants.{Text, Slow}

abbrev pub pattern_of : BenchRegex → Bench_pattern
pattern_of (Text at_start at_end t) = has_text at_start at_end (string_bytes t)
pattern_of (Slow t) = slow_text (string_bytes t)

-- of a body and what is left of a pattern: the body has an item, and its text and the rest are these
abbrev pub IsBodyRead : List ℕ × List ℕ → List ℕ → List ℕ → Type 0
IsBodyRead r text rest = (is_empty r.0 ≡ false) × (text ≡ encode_utf8_all r.0) × (rest ≡ r.1)
