-- How many matchers a verdict may ask.
use Rattle.std.specs.Prelude.{ℕ, ◌+◌, Bool, cond, ◌&&◌, List, map, length, sum_by, count_by}
use Rattle.serde_json.specs.Data.{Data}
use Rattle.olk_spec.specs.Names.{Name, Text, filter_once}
use Rattle.olk_spec.specs.World.{World, is_unfinished}
use Rattle.olk_spec.specs.Vocabulary.{Keyword, pattern_properties, any_of, one_of, not_keyword, if_keyword, keyword_named}
use Rattle.olk_spec.specs.Schemas.{Schema, truth, keywords, no_schema, Keywords, Part, members}
use Rattle.olk_spec.specs.Meanings.{Meaning, applied, restricts, is_declared, is_conditional, is_open}

-- the patterns that the matcher is asked for
abbrev pub open_patterns : {X : Type 0} → World → Part X → List Text
open_patterns W p = filter_once (is_open W) (map (λ e. e.0) p.entries)

-- on a member's name: where there is a table, a declared name asks only the matchers that left it unfinished
abbrev pub asks_at : {X : Type 0} → World → Keywords X → Part X → Name → ℕ
asks_at W S p n = cond (restricts S && is_declared S n) (count_by (λ t. is_unfinished (W.says t n)) (open_patterns W p)) (length (open_patterns W p))

module _ (W : World) (u : Bool) (S : Keywords Meaning) (k : Name) (p : Part Meaning) (v : Data) where
  -- a keyword's own, beside those of the subschemas that it asks
  abbrev pub own_asks : Keyword → ℕ
  own_asks pattern_properties = sum_by (λ m. asks_at W S p m.0) (members v)
  own_asks any_of = sum_by (λ s. s.answer.asks v) p.items
  own_asks one_of = sum_by (λ s. s.answer.asks v) p.items
  own_asks not_keyword = p.whole.answer.asks v
  own_asks if_keyword = cond (is_conditional S) (p.whole.answer.asks v) 0
  own_asks _ = 0

  abbrev pub keyword_asks : Keyword → ℕ
  keyword_asks w = sum_by (λ a. a.sub.answer.asks a.value) (applied W u S k p v w) + own_asks w

abbrev pub asks_step : World → Bool → Schema Meaning → Data → ℕ
asks_step W u (truth b) v = 0
asks_step W u (no_schema d) v = 0
asks_step W u (keywords S) v = sum_by (λ m. keyword_asks W u S m.0 m.1 v (keyword_named W m.0)) S
