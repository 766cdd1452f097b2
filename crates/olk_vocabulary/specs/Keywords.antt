-- The keywords of the vocabulary (JSON Schema 2020-12 Validation, 6.1 to 6.5): their names, what they take, and what they find.
use Rattle.std.specs.Prelude.{ℕ, Bool, true, false, ◌&&◌, ◌||◌, ◌==◌, cond, if◌then◌else◌, nat_le, List, [], ◌∷◌, ◌++◌, length, map, Option, Some, None, is_some, option_map, codes, bytes_eq, decimal, chars}
use Rattle.std.specs.List.{list_any, list_all}
use Rattle.std.specs.Option.{option_map_or}
use Rattle.serde_json.specs.Data.{Num, Data, Items, number, string, array}
use Rattle.serde_json.specs.Find.{as_bool, as_number, as_str, as_array, as_object}
use Rattle.serde_json.specs.Written.{compact_text}
use Rattle.olk_spec.specs.Names.{Text, Name}
use Rattle.olk_spec.specs.Malformed.{items_list}
use Rattle.olk_spec.specs.Schemas.{listed}
use Rattle.olk_spec.specs.Bench.{shown, unless}
use Rattle.olk_spec.specs.Bench as bench
use Rattle.olk_numbers.specs.Multiples.{divisor_of, is_multiple_of}
use Rattle.olk_numbers.specs.Numbers.{exact, is_below, is_at_most, is_integral, is_written_whole, natural}
use Rattle.olk_vocabulary.specs.Patterns.{takes_pattern, pattern_faults}
use Rattle.olk_vocabulary.specs.Same.{same_value}
use Rattle.olk_vocabulary.specs.Unique.{unique_faults}
use Rattle.olk_vocabulary.specs.declared.keyword.Bound.{Bound}
use Rattle.olk_vocabulary.specs.declared.keyword.Bound.TheVariants as bound
use Rattle.olk_vocabulary.specs.declared.keyword.Limit.{Limit}
use Rattle.olk_vocabulary.specs.declared.keyword.Limit.TheVariants as limit
use Rattle.olk_vocabulary.specs.declared.keyword.Keyword.{Keyword}
use Rattle.olk_vocabulary.specs.declared.keyword.Keyword.TheVariants as keyword

abbrev pub bound_name : Bound → Name
bound_name bound.Minimum = codes "minimum"
bound_name bound.Maximum = codes "maximum"
bound_name bound.ExclusiveMinimum = codes "exclusiveMinimum"
bound_name bound.ExclusiveMaximum = codes "exclusiveMaximum"

abbrev pub limit_name : Limit → Name
limit_name limit.MinLength = codes "minLength"
limit_name limit.MaxLength = codes "maxLength"
limit_name limit.MinItems = codes "minItems"
limit_name limit.MaxItems = codes "maxItems"
limit_name limit.MinProperties = codes "minProperties"
limit_name limit.MaxProperties = codes "maxProperties"

abbrev pub keyword_name : Keyword → Name
keyword_name keyword.Type = codes "type"
keyword_name keyword.Enum = codes "enum"
keyword_name keyword.Const = codes "const"
keyword_name keyword.MultipleOf = codes "multipleOf"
keyword_name (keyword.Bound b) = bound_name b
keyword_name (keyword.Limit l) = limit_name l
keyword_name keyword.Pattern = codes "pattern"
keyword_name keyword.UniqueItems = codes "uniqueItems"

abbrev pub keyword_named : Name → Option Keyword
keyword_named n =
    if bytes_eq n (codes "type") then Some keyword.Type
    else if bytes_eq n (codes "enum") then Some keyword.Enum
    else if bytes_eq n (codes "const") then Some keyword.Const
    else if bytes_eq n (codes "multipleOf") then Some keyword.MultipleOf
    else if bytes_eq n (codes "minimum") then Some (keyword.Bound bound.Minimum)
    else if bytes_eq n (codes "maximum") then Some (keyword.Bound bound.Maximum)
    else if bytes_eq n (codes "exclusiveMinimum") then Some (keyword.Bound bound.ExclusiveMinimum)
    else if bytes_eq n (codes "exclusiveMaximum") then Some (keyword.Bound bound.ExclusiveMaximum)
    else if bytes_eq n (codes "minLength") then Some (keyword.Limit limit.MinLength)
    else if bytes_eq n (codes "maxLength") then Some (keyword.Limit limit.MaxLength)
    else if bytes_eq n (codes "minItems") then Some (keyword.Limit limit.MinItems)
    else if bytes_eq n (codes "maxItems") then Some (keyword.Limit limit.MaxItems)
    else if bytes_eq n (codes "minProperties") then Some (keyword.Limit limit.MinProperties)
    else if bytes_eq n (codes "maxProperties") then Some (keyword.Limit limit.MaxProperties)
    else if bytes_eq n (codes "pattern") then Some keyword.Pattern
    else if bytes_eq n (codes "uniqueItems") then Some keyword.UniqueItems
    else None

-- ---- what a keyword takes

-- the name that integers of draft 4 have here: the standard calls these integers as well
abbrev pub integer_of_draft_4 : Name
integer_of_draft_4 = codes "integer of draft 4"

abbrev pub names_kind : Data → Bool
names_kind (string s) = bytes_eq s integer_of_draft_4 || bench.names_kind (string s)
names_kind x = false

abbrev pub name_kinds : List Data → Bool
name_kinds ds = list_all names_kind ds

-- no more than there are kinds: a longer list of their names has one twice
abbrev pub is_short : Items → Bool
is_short ds = nat_le (length (items_list ds)) 7

-- the name of a kind, or a list of such names
abbrev pub takes_kinds : Data → Bool
takes_kinds (array ds) = is_short ds && name_kinds (items_list ds)
takes_kinds x = names_kind x

abbrev pub takes : Keyword → Data → Bool
takes keyword.Type x = takes_kinds x
takes keyword.Enum x = is_some (as_array x)
takes keyword.Const x = true
takes keyword.MultipleOf x = option_map_or (λ n. is_some (divisor_of n)) (as_number x) false
takes (keyword.Bound b) x = is_some (as_number x)
takes (keyword.Limit l) x = is_some (natural x)
takes keyword.Pattern x = takes_pattern x
takes keyword.UniqueItems x = is_some (as_bool x)

-- ---- 6.1.1: `type`

abbrev pub is_integer : Data → Bool
is_integer (number n) = is_integral (exact n)
is_integer v = false

-- draft 4 Core, 3.5
abbrev pub is_integer_of_draft_4 : Data → Bool
is_integer_of_draft_4 (number n) = is_written_whole n
is_integer_of_draft_4 v = false

-- every number without a fraction is an integer
abbrev pub is_of_kind : Name → Data → Bool
is_of_kind k v =
    if bytes_eq k (codes "integer") then is_integer v
    else if bytes_eq k integer_of_draft_4 then is_integer_of_draft_4 v
    else bench.is_of_kind k v

abbrev pub is_of_named_kind : Data → Data → Bool
is_of_named_kind (string k) v = is_of_kind k v
is_of_named_kind x v = false

-- texts in a row, with a comma before each, and with commas between them
abbrev pub led : List Text → Text
led [] = []
led (t ∷ ts) = codes ", " ++ (t ++ led ts)

abbrev pub separated : List Text → Text
separated [] = []
separated (t ∷ ts) = t ++ led ts

-- what is said of a kind: its name in its draft
abbrev pub told_kind : Data → Text
told_kind (string k) = compact_text (string (cond (bytes_eq k integer_of_draft_4) (codes "integer") k))
told_kind x = compact_text x

abbrev pub kinds_text : Data → List Text → Text
kinds_text v names = shown v ++ codes " is not of types " ++ separated names

abbrev pub kinds_faults : List Data → Data → List Text
kinds_faults ds v = unless (list_any (λ d. is_of_named_kind d v) ds) (kinds_text v (map told_kind ds))

abbrev pub kind_faults : Data → Data → List Text
kind_faults x v = unless (is_of_named_kind x v) (shown v ++ codes " is not of type " ++ told_kind x)

abbrev pub type_faults : Data → Data → List Text
type_faults (array ds) v = kinds_faults (items_list ds) v
type_faults x v = kind_faults x v

-- ---- 6.1.2, 6.1.3: `enum` and `const`

-- three values, or two and how many others there are
abbrev pub candidates : List Data → Text
candidates [] = []
candidates (a ∷ []) = shown a
candidates (a ∷ b ∷ []) = shown a ++ (codes " or " ++ shown b)
candidates (a ∷ b ∷ c ∷ []) = shown a ++ (codes ", " ++ (shown b ++ (codes " or " ++ shown c)))
candidates (a ∷ b ∷ rest) = shown a ++ (codes ", " ++ (shown b ++ (codes " or " ++ (decimal (length rest) ++ codes " other candidates"))))

abbrev pub candidates_faults : List Data → Data → List Text
candidates_faults ds v = unless (list_any (λ d. same_value d v) ds) (shown v ++ codes " is not one of " ++ candidates ds)

abbrev pub enum_faults : Data → Data → List Text
enum_faults (array ds) v = candidates_faults (items_list ds) v
enum_faults x v = []

abbrev pub const_faults : Data → Data → List Text
const_faults x v = unless (same_value x v) (shown x ++ codes " was expected")

-- ---- 6.2: numbers

abbrev pub multiple_text : Num → Data → Text
multiple_text m v = shown v ++ codes " is not a multiple of " ++ shown (number m)

-- 6.2.1
abbrev pub multiple_faults : Data → Data → List Text
multiple_faults (number m) v = unless (option_map_or (λ n. is_multiple_of n m) (as_number v) true) (multiple_text m v)
multiple_faults x v = []

-- 6.2.2 to 6.2.5
abbrev pub is_within : Bound → Num → Num → Bool
is_within bound.Minimum m n = is_at_most m n
is_within bound.Maximum m n = is_at_most n m
is_within bound.ExclusiveMinimum m n = is_below m n
is_within bound.ExclusiveMaximum m n = is_below n m

abbrev pub bound_words : Bound → Text
bound_words bound.Minimum = codes " is less than the minimum of "
bound_words bound.Maximum = codes " is greater than the maximum of "
bound_words bound.ExclusiveMinimum = codes " is less than or equal to the minimum of "
bound_words bound.ExclusiveMaximum = codes " is greater than or equal to the maximum of "

abbrev pub bound_text : Bound → Num → Data → Text
bound_text b m v = shown v ++ bound_words b ++ shown (number m)

abbrev pub bound_faults : Bound → Data → Data → List Text
bound_faults b (number m) v = unless (option_map_or (λ n. is_within b m n) (as_number v) true) (bound_text b m v)
bound_faults b x v = []

-- ---- 6.3 to 6.5: lengths of texts, arrays and objects

abbrev pub characters : Data → Option ℕ
characters v = option_map (λ s. length (chars s)) (as_str v)

abbrev pub items : Data → Option ℕ
items v = option_map (λ ds. length (items_list ds)) (as_array v)

abbrev pub members : Data → Option ℕ
members v = option_map (λ ms. length (listed ms)) (as_object v)

abbrev pub length_for : Limit → Data → Option ℕ
length_for limit.MinLength v = characters v
length_for limit.MaxLength v = characters v
length_for limit.MinItems v = items v
length_for limit.MaxItems v = items v
length_for l v = members v

abbrev pub is_allowed : Limit → ℕ → ℕ → Bool
is_allowed limit.MaxLength m n = nat_le n m
is_allowed limit.MaxItems m n = nat_le n m
is_allowed limit.MaxProperties m n = nat_le n m
is_allowed l m n = nat_le m n

abbrev pub limit_words : Limit → Text
limit_words limit.MinLength = codes " is shorter than "
limit_words limit.MaxLength = codes " is longer than "
limit_words limit.MaxItems = codes " has more than "
limit_words limit.MaxProperties = codes " has more than "
limit_words l = codes " has less than "

abbrev pub one_thing : Limit → Text
one_thing limit.MinLength = codes " character"
one_thing limit.MaxLength = codes " character"
one_thing limit.MinItems = codes " item"
one_thing limit.MaxItems = codes " item"
one_thing l = codes " property"

abbrev pub many_things : Limit → Text
many_things limit.MinLength = codes " characters"
many_things limit.MaxLength = codes " characters"
many_things limit.MinItems = codes " items"
many_things limit.MaxItems = codes " items"
many_things l = codes " properties"

abbrev pub limit_text : Limit → ℕ → Data → Text
limit_text l m v = shown v ++ limit_words l ++ decimal m ++ cond (m == 1) (one_thing l) (many_things l)

abbrev pub limit_faults : Limit → Data → Data → List Text
limit_faults l x v = option_map_or (λ m. unless (option_map_or (λ n. is_allowed l m n) (length_for l v) true) (limit_text l m v)) (natural x) []

-- ---- what a keyword finds

abbrev pub finds : Keyword → Data → Data → List Text
finds keyword.Type x v = type_faults x v
finds keyword.Enum x v = enum_faults x v
finds keyword.Const x v = const_faults x v
finds keyword.MultipleOf x v = multiple_faults x v
finds (keyword.Bound b) x v = bound_faults b x v
finds (keyword.Limit l) x v = limit_faults l x v
finds keyword.Pattern x v = pattern_faults x v
finds keyword.UniqueItems x v = unique_faults x v
