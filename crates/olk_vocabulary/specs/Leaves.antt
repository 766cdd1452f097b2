-- The leaves of the vocabulary as keywords with their values, and their texts.
use Rattle.std.specs.Prelude.{◌≡◌, ◌++◌, true, false, List, Option, MatchOption, codes, map, string_bytes}
use Rattle.std.specs.Option.{option_map_or}
use Rattle.serde_json.specs.Data.{unsigned, Data, boolean, number, string, array}
use Rattle.serde_json.specs.View.{view, items_view}
use Rattle.olk_spec.specs.Names.{Text, Name}
use Rattle.olk_spec.specs.Json.{arr}
use Rattle.olk_spec.specs.Bench.{shown}
use Rattle.olk_bench.specs.Leaves as bench
use Rattle.olk_numbers.specs.Numbers.{num_of, natural}
use Rattle.olk_vocabulary.specs.Patterns.{pattern_text}
use Rattle.olk_vocabulary.specs.Unique.{unique_text}
use Rattle.olk_vocabulary.specs.Keywords.{keyword_name, integer_of_draft_4, takes, finds, told_kind, kinds_text, candidates, multiple_text, bound_text, limit_text}
use Rattle.olk_vocabulary.specs.declared.keyword.Keyword.{Keyword}
use Rattle.olk_vocabulary.specs.declared.keyword.Keyword.TheVariants as keyword
use Rattle.olk_vocabulary.specs.declared.kinds.Kind.{Kind}
use Rattle.olk_vocabulary.specs.declared.kinds.Kind.TheVariants as kind
use Rattle.olk_vocabulary.specs.declared.leaf.VocabularyLeaf.{VocabularyLeaf}
use Rattle.olk_vocabulary.specs.declared.leaf.VocabularyLeaf.TheVariants as leaf

abbrev pub kind_name : Kind → Name
kind_name (kind.Of k) = bench.kind_name k
kind_name kind.IntegerOfDraft4 = integer_of_draft_4

abbrev pub kind_value : Kind → Data
kind_value k = string (kind_name k)

-- ---- the keyword and the value that a leaf stands for

abbrev pub leaf_keyword : VocabularyLeaf → Keyword
leaf_keyword (leaf.Type k) = keyword.Type
leaf_keyword (leaf.Types ks) = keyword.Type
leaf_keyword (leaf.Enum c) = keyword.Enum
leaf_keyword (leaf.Const x) = keyword.Const
leaf_keyword (leaf.MultipleOf d) = keyword.MultipleOf
leaf_keyword (leaf.Bound b n) = keyword.Bound b
leaf_keyword (leaf.Limit l n) = keyword.Limit l
leaf_keyword (leaf.Pattern p) = keyword.Pattern
leaf_keyword (leaf.UniqueItems b) = keyword.UniqueItems

abbrev pub leaf_value : VocabularyLeaf → Data
leaf_value (leaf.Type k) = kind_value k
leaf_value (leaf.Types ks) = arr (map kind_value ks.items)
leaf_value (leaf.Enum c) = array (items_view c.values.items)
leaf_value (leaf.Const x) = view x
leaf_value (leaf.MultipleOf d) = number (num_of d.number)
leaf_value (leaf.Bound b n) = number (num_of n)
leaf_value (leaf.Limit l n) = number (unsigned n)
leaf_value (leaf.Pattern p) = string (string_bytes p.text)
leaf_value (leaf.UniqueItems b) = boolean b

abbrev pub leaf_name : VocabularyLeaf → Name
leaf_name l = keyword_name (leaf_keyword l)

-- what a leaf says of a value
abbrev pub leaf_finds : VocabularyLeaf → Data → List Text
leaf_finds l v = finds (leaf_keyword l) (leaf_value l) v

-- the text of a leaf for a value that it does not accept
abbrev pub leaf_text : VocabularyLeaf → Data → Text
leaf_text (leaf.Type k) v = shown v ++ codes " is not of type " ++ told_kind (kind_value k)
leaf_text (leaf.Types ks) v = kinds_text v (map (λ k. told_kind (kind_value k)) ks.items)
leaf_text (leaf.Enum c) v = shown v ++ codes " is not one of " ++ candidates (map view c.values.items)
leaf_text (leaf.Const x) v = shown (view x) ++ codes " was expected"
leaf_text (leaf.MultipleOf d) v = multiple_text (num_of d.number) v
leaf_text (leaf.Bound b n) v = bound_text b (num_of n) v
leaf_text (leaf.Limit l n) v = limit_text l n v
leaf_text (leaf.Pattern p) v = pattern_text (string_bytes p.text) v
leaf_text (leaf.UniqueItems b) v = unique_text v

-- ---- what is made of a keyword and a value

-- a value as a leaf keeps it: a limit as a whole number
abbrev pub kept_value : Keyword → Data → Data
kept_value (keyword.Limit l) x = option_map_or (λ m. number (unsigned m)) (natural x) x
kept_value w x = x

-- none where the value does not fit the keyword, else the leaf of both
abbrev pub IsMade : Keyword → Data → Option VocabularyLeaf → Type 0
IsMade w x o = MatchOption o (takes w x ≡ false) (λ l. (takes w x ≡ true) × (leaf_keyword l ≡ w) × (leaf_value l ≡ kept_value w x))
