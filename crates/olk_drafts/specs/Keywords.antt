-- As which keyword of 2020-12 a member of a schema object is read, by the draft and by the members beside it.
use Rattle.std.specs.Prelude.{Bool, false, not, ◌&&◌, ◌||◌, List, [], ◌∷◌, Option, Some, None, option_and_then, is_some, unwrap_or, codes, bytes_eq, cond, if◌then◌else◌}
use Rattle.serde_json.specs.Data.{Members}
use Rattle.serde_json.specs.Find.{get_member, as_array, as_bool, as_str}
use Rattle.olk_spec.specs.Names.{Name, is_among}
use Rattle.olk_drafts.specs.Drafts.{is_4, is_up_to_7, is_up_to_2019}
use Rattle.olk_drafts.specs.declared.drafts.Draft.{Draft}
use Rattle.olk_drafts.specs.declared.drafts.Draft.TheVariants.{Draft4, Draft6, Draft7, Draft201909, Draft202012}

-- ---- the keywords of drafts 4 to 7

-- what is asserted of a value itself
abbrev pub asserting : List Name
asserting = codes "type" ∷ codes "enum" ∷ codes "const" ∷ codes "multipleOf" ∷ codes "minimum" ∷ codes "maximum" ∷ codes "exclusiveMinimum" ∷ codes "exclusiveMaximum"
    ∷ codes "minLength" ∷ codes "maxLength" ∷ codes "pattern" ∷ codes "format" ∷ codes "minItems" ∷ codes "maxItems" ∷ codes "uniqueItems" ∷ codes "minProperties" ∷ codes "maxProperties" ∷ codes "required" ∷ []

-- what applies schemas; and `$id`, by either name
abbrev pub applying : List Name
applying = codes "properties" ∷ codes "patternProperties" ∷ codes "additionalProperties" ∷ codes "propertyNames" ∷ codes "dependencies" ∷ codes "propertyDependencies"
    ∷ codes "items" ∷ codes "additionalItems" ∷ codes "contains" ∷ codes "allOf" ∷ codes "anyOf" ∷ codes "oneOf" ∷ codes "not" ∷ codes "if" ∷ codes "then" ∷ codes "else" ∷ codes "id" ∷ codes "$id" ∷ []

-- ---- the keywords that came with a draft

abbrev pub since_6 : List Name
since_6 = codes "$id" ∷ codes "const" ∷ codes "contains" ∷ codes "propertyNames" ∷ []

abbrev pub since_7 : List Name
since_7 = codes "if" ∷ codes "then" ∷ codes "else" ∷ []

abbrev pub since_2019 : List Name
since_2019 = codes "$recursiveRef" ∷ codes "minContains" ∷ codes "maxContains" ∷ codes "dependentRequired" ∷ codes "dependentSchemas" ∷ codes "unevaluatedItems" ∷ codes "unevaluatedProperties" ∷ []

abbrev pub since_2020 : List Name
since_2020 = codes "$dynamicRef" ∷ codes "prefixItems" ∷ []

-- the keyword came with a later draft
abbrev pub is_later : Draft → Name → Bool
is_later Draft4 k = is_among k since_6 || (is_among k since_7 || (is_among k since_2019 || is_among k since_2020))
is_later Draft6 k = is_among k since_7 || (is_among k since_2019 || is_among k since_2020)
is_later Draft7 k = is_among k since_2019 || is_among k since_2020
is_later Draft201909 k = is_among k since_2020
is_later Draft202012 k = false

-- beside a reference to draft 7 these say nothing
abbrev pub is_ignored : Name → Bool
is_ignored k = is_among k asserting || is_among k applying

abbrev pub is_exclusive : Name → Bool
is_exclusive k = bytes_eq k (codes "exclusiveMinimum") || bytes_eq k (codes "exclusiveMaximum")

-- ---- the members of a schema object

abbrev pub truth_at : Name → Members → Option Bool
truth_at k ms = option_and_then as_bool (get_member k ms)

abbrev pub has_text : Name → Members → Bool
has_text k ms = is_some (option_and_then as_str (get_member k ms))

abbrev pub has_array : Name → Members → Bool
has_array k ms = is_some (option_and_then as_array (get_member k ms))

module _ (draft : Draft) (ms : Members) where
  -- to draft 7 nothing is said beside a reference
  abbrev pub refers : Bool
  refers = is_up_to_7 draft && has_text (codes "$ref") ms

  -- to 2019-09 a list of `items` has a schema for each of the first items, and `additionalItems` is the one for the others
  abbrev pub lists_items : Bool
  lists_items = is_up_to_2019 draft && has_array (codes "items") ms

  -- in draft 4 a truth value says of a bound whether it is excluded
  abbrev pub excludes : Name → Bool
  excludes k = is_4 draft && unwrap_or (truth_at k ms) false

  -- in draft 4 `$id` is `id`
  abbrev pub has_id : Bool
  has_id = is_4 draft && has_text (codes "id") ms

  -- it says nothing for itself: `additionalItems` beside no list, and a truth value beside a bound
  abbrev pub is_idle : Name → Bool
  is_idle k = (bytes_eq k (codes "additionalItems") && (is_up_to_2019 draft && not lists_items)) || (is_exclusive k && (is_4 draft && is_some (truth_at k ms)))

  abbrev pub is_left_out : Name → Bool
  is_left_out k = is_later draft k || ((is_ignored k && refers) || is_idle k)

  abbrev pub keyword_named : Name → Name
  keyword_named k =
      if bytes_eq k (codes "items") then cond lists_items (codes "prefixItems") k
      else if bytes_eq k (codes "additionalItems") then cond lists_items (codes "items") k
      else if bytes_eq k (codes "minimum") then cond (excludes (codes "exclusiveMinimum")) (codes "exclusiveMinimum") k
      else if bytes_eq k (codes "maximum") then cond (excludes (codes "exclusiveMaximum")) (codes "exclusiveMaximum") k
      else if bytes_eq k (codes "id") then cond has_id (codes "$id") k
      else k

  -- the keyword of 2020-12 as which a member is read, or none where it is left out
  abbrev pub read_as : Name → Option Name
  read_as k = cond (is_left_out k) None (Some (keyword_named k))
