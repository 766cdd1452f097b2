-- The leaves of the bench as keywords with their values, and their texts.
use Rattle.std.specs.Prelude.{◌≡◌, ◌++◌, true, false, List, Option, MatchOption, codes, string_bytes}
use Rattle.serde_json.specs.Data.{unsigned, Data, number, string}
use Rattle.serde_json.specs.Written.{compact_text, number_text}
use Rattle.olk_spec.specs.Names.{Text, Name}
use Rattle.olk_spec.specs.Bench.{Leaf_keyword, type_keyword, const_keyword, minimum, maximum, multiple_of, min_length, max_length, takes, finds, shown}
use Rattle.olk_bench.specs.Numbers.{num_of}
use Rattle.olk_bench.specs.declared.leaf.ValueKind.{ValueKind}
use Rattle.olk_bench.specs.declared.leaf.ValueKind.TheVariants as kind
use Rattle.olk_base.specs.declared.node.JsonType.TheVariants as type
use Rattle.olk_bench.specs.declared.leaf.Constant.{Constant}
use Rattle.olk_bench.specs.declared.leaf.Constant.TheVariants as constant
use Rattle.olk_bench.specs.declared.leaf.BenchLeaf.{BenchLeaf}
use Rattle.olk_bench.specs.declared.leaf.BenchLeaf.TheVariants as leaf
use Rattle.olk_bench.specs.declared.leaves.LeafKeyword.{LeafKeyword}
use Rattle.olk_bench.specs.declared.leaves.LeafKeyword.TheVariants as keyword

abbrev pub keyword_named : LeafKeyword → Leaf_keyword
keyword_named keyword.Type = type_keyword
keyword_named keyword.Const = const_keyword
keyword_named keyword.Minimum = minimum
keyword_named keyword.Maximum = maximum
keyword_named keyword.MultipleOf = multiple_of
keyword_named keyword.MinLength = min_length
keyword_named keyword.MaxLength = max_length

abbrev pub keyword_text : Leaf_keyword → Name
keyword_text type_keyword = codes "type"
keyword_text const_keyword = codes "const"
keyword_text minimum = codes "minimum"
keyword_text maximum = codes "maximum"
keyword_text multiple_of = codes "multipleOf"
keyword_text min_length = codes "minLength"
keyword_text max_length = codes "maxLength"

abbrev pub kind_name : ValueKind → Name
kind_name (kind.Of type.Null) = codes "null"
kind_name (kind.Of type.Boolean) = codes "boolean"
kind_name kind.Integer = codes "integer"
kind_name (kind.Of type.Number) = codes "number"
kind_name (kind.Of type.String) = codes "string"
kind_name (kind.Of type.Array) = codes "array"
kind_name (kind.Of type.Object) = codes "object"

abbrev pub constant_value : Constant → Data
constant_value (constant.Number n) = number (num_of n)
constant_value (constant.Text s) = string (string_bytes s)

-- ---- the keyword and the value that a leaf stands for

abbrev pub leaf_keyword : BenchLeaf → Leaf_keyword
leaf_keyword (leaf.Type k) = type_keyword
leaf_keyword (leaf.Const c) = const_keyword
leaf_keyword (leaf.Minimum n) = minimum
leaf_keyword (leaf.Maximum n) = maximum
leaf_keyword (leaf.MultipleOf d) = multiple_of
leaf_keyword (leaf.MinLength n) = min_length
leaf_keyword (leaf.MaxLength n) = max_length

abbrev pub leaf_value : BenchLeaf → Data
leaf_value (leaf.Type k) = string (kind_name k)
leaf_value (leaf.Const c) = constant_value c
leaf_value (leaf.Minimum n) = number (num_of n)
leaf_value (leaf.Maximum n) = number (num_of n)
leaf_value (leaf.MultipleOf d) = number (unsigned d.value)
leaf_value (leaf.MinLength n) = number (unsigned n)
leaf_value (leaf.MaxLength n) = number (unsigned n)

abbrev pub leaf_name : BenchLeaf → Name
leaf_name l = keyword_text (leaf_keyword l)

-- what a leaf says of a value
abbrev pub leaf_finds : BenchLeaf → Data → List Text
leaf_finds l v = finds (leaf_keyword l) (leaf_value l) v

-- the text of a leaf for a value that it does not accept
abbrev pub leaf_text : BenchLeaf → Data → Text
leaf_text (leaf.Type k) v = shown v ++ codes " is not of type " ++ compact_text (string (kind_name k))
leaf_text (leaf.Const c) v = compact_text (constant_value c) ++ codes " was expected"
leaf_text (leaf.Minimum n) v = shown v ++ codes " is less than the minimum of " ++ number_text (num_of n)
leaf_text (leaf.Maximum n) v = shown v ++ codes " is greater than the maximum of " ++ number_text (num_of n)
leaf_text (leaf.MultipleOf d) v = shown v ++ codes " is not a multiple of " ++ number_text (unsigned d.value)
leaf_text (leaf.MinLength n) v = shown v ++ codes " is shorter than " ++ number_text (unsigned n) ++ codes " characters"
leaf_text (leaf.MaxLength n) v = shown v ++ codes " is longer than " ++ number_text (unsigned n) ++ codes " characters"

-- ---- what is made of a keyword and a value

-- none where the value does not fit the keyword, else the leaf of both
abbrev pub IsMade : Leaf_keyword → Data → Option BenchLeaf → Type 0
IsMade w x o = MatchOption o (takes w x ≡ false) (λ l. (takes w x ≡ true) × (leaf_keyword l ≡ w) × (leaf_value l ≡ x))
