-- What patterns say of the names of a table, kept in the bits of words.
use Rattle.std.specs.Prelude.{◌≡◌, ℕ, ◌/◌, ◌%◌, ◌<◌, ◌≤◌, ◌==◌, ◌&&◌, nat_lt, Bool, true, false, List, [], map, get_or, length, Option, Some, None, bytes_eq, count_by, slice_get}
use Rattle.std.specs.Int.{bit_at}
use Rattle.std.specs.List.{position, filter_map, range_with_len, list_all}
use Rattle.std.specs.Option.{option_map_or}
use Rattle.olk_spec.specs.Names.{Name, is_empty}
use Rattle.olk_spec.specs.World.{Says, matched, unmatched, unfinished, reads_as, is_unfinished}
use Rattle.olk_base.specs.Count.{Counts, no_counts, raised_by}
use Rattle.olk_base.specs.Compiled.{pattern_answers, pattern_costs}
use Rattle.olk_base.specs.declared.pattern.CompiledPattern.{CompiledPattern}
use Rattle.olk_tree.specs.declared.pattern_table.PatternIndex.{PatternIndex}

-- those of patterns that have nodes beside them
abbrev pub patterns_of : {R N : Type 0} → List (CompiledPattern R × N) → List (CompiledPattern R)
patterns_of es = map (λ e. e.0) es

-- ---- bits

-- the bit of pattern i is bit `i % 64` of word `i / 64`
abbrev pub has_bit : List ℕ → ℕ → Bool
has_bit words i = bit_at (get_or words (i / 64) 0) (i % 64) == 1

-- the words of the patterns that match a name, and of those that were left unfinished at it
pub record Row : Type 0 where
  pub matched : List ℕ
  pub unfinished : List ℕ

-- is a pattern left unfinished, and does it match
abbrev pub says_by : Bool → Bool → Says
says_by true m = unfinished
says_by false true = matched
says_by false false = unmatched

abbrev pub row_says : Row → ℕ → Says
row_says r i = says_by (has_bit r.unfinished i) (has_bit r.matched i)

-- no bit is set, of a pattern that matches or was left unfinished
abbrev pub is_blank : Row → Bool
is_blank r = list_all (λ w. w == 0) r.matched && list_all (λ w. w == 0) r.unfinished

-- the bit of pattern i has a word
abbrev pub HasWord : ℕ → Row → Type 0
HasWord i r = (i / 64 < length r.matched) × (i / 64 < length r.unfinished)

-- ---- a table

-- names, how many patterns there are, and a row for each name
pub record Table : Type 0 where
  pub names : List Name
  pub patterns : ℕ
  pub rows : List Row

abbrev pub no_table : Table
no_table = record { names = []; patterns = 0; rows = [] }

-- what is known of a pattern and the name at a place; where there is no row, that is nothing
abbrev pub table_says : Table → ℕ → ℕ → Says
table_says t p i = option_map_or (λ r. row_says r i) (slice_get t.rows p) unfinished

-- the row of the name at a place is there, and blank
abbrev pub is_blank_at : Table → ℕ → Bool
is_blank_at t p = option_map_or is_blank (slice_get t.rows p) false

-- what an answer says, where none is given for a match that was left unfinished
abbrev pub known_says : Option Bool → Says
known_says (Some true) = matched
known_says (Some false) = unmatched
known_says None = unfinished

-- ---- by name

abbrev pub place_in : Table → Name → Option ℕ
place_in t n = position (λ k. bytes_eq k n) t.names

-- the name is one of the table's, and i one of its patterns
abbrev pub matched_in : Table → Name → ℕ → Bool
matched_in t n i = nat_lt i t.patterns && option_map_or (λ p. reads_as false (table_says t p i)) (place_in t n) false

abbrev pub unfinished_in : Table → Name → ℕ → Bool
unfinished_in t n i = nat_lt i t.patterns && option_map_or (λ p. is_unfinished (table_says t p i)) (place_in t n) false

-- a pattern that matches, or was left unfinished
abbrev pub index_said : ℕ → Says → Option PatternIndex
index_said i matched = Some record { index = i; finished = true }
index_said i unmatched = None
index_said i unfinished = Some record { index = i; finished = false }

-- of the first n patterns
abbrev pub indices_below : (ℕ → Says) → ℕ → List PatternIndex
indices_below says n = filter_map (λ i. index_said i (says i)) (range_with_len 0 n)

abbrev pub indices_in : Table → Name → List PatternIndex
indices_in t n = option_map_or (λ p. indices_below (table_says t p) t.patterns) (place_in t n) []

-- ---- patterns that are asked once for each name

module _ {R : Type 0} (answers : R → Name → Says) (patterns : List (CompiledPattern R)) where
  -- a row has what each pattern says of the name
  abbrev pub IsRowOf : Name → Row → Type 0
  IsRowOf n r = (i : ℕ) (e : CompiledPattern R) → slice_get patterns i ≡ Some e → row_says r i ≡ pattern_answers answers e n

  -- a table has what each pattern says of each of its names; and where there are names, it counts so many patterns
  pub record IsTableOf (t : Table) : Type 0 where
    pub says : (p i : ℕ) (n : Name) (e : CompiledPattern R) → slice_get t.names p ≡ Some n → slice_get patterns i ≡ Some e → table_says t p i ≡ pattern_answers answers e n
    pub count : is_empty t.names ≡ false → t.patterns ≡ length patterns

-- how many matchers are asked for one name
abbrev pub how_many_cost : {R : Type 0} → (R → Bool) → List (CompiledPattern R) → ℕ
how_many_cost costs patterns = count_by (pattern_costs costs) patterns

-- n matchers more are asked, and nothing else is counted
abbrev pub count_asks : ℕ → Counts → Counts
count_asks n c = raised_by c (record no_counts { asked = n })

-- at most n matchers more are asked, and nothing else is counted
pub record AsksAtMost (n : ℕ) (old new : Counts) : Type 0 where
  pub times : ℕ
  pub exactly : new ≡ count_asks times old
  pub within : times ≤ n
