-- The keywords that a schema object can have.
use Rattle.std.specs.Prelude.{Bool, List, [], ◌∷◌, codes, if◌then◌else◌, bytes_eq}
use Rattle.olk_spec.specs.Names.{Name, is_among}
use Rattle.olk_spec.specs.World.{World}

pub data Keyword : Type 0 where
  properties pattern_properties additional_properties property_names : Keyword
  required dependent_required dependent_schemas dependencies property_dependencies : Keyword
  all_of any_of one_of not_keyword if_keyword then_keyword else_keyword : Keyword
  -- refused by name, left to the leaf set, and ignored
  unsupported leaf unread : Keyword

abbrev pub unsupported_names : List Name
unsupported_names = codes "$ref" ∷ codes "$dynamicRef" ∷ codes "$recursiveRef" ∷ codes "unevaluatedProperties" ∷ codes "unevaluatedItems" ∷ []

abbrev pub leaf_or_unread : Bool → Keyword
leaf_or_unread b = if b then leaf else unread

-- which keyword a name is
abbrev pub keyword_named : World → Name → Keyword
keyword_named W n =
    if bytes_eq n (codes "properties") then properties
    else if bytes_eq n (codes "patternProperties") then pattern_properties
    else if bytes_eq n (codes "additionalProperties") then additional_properties
    else if bytes_eq n (codes "propertyNames") then property_names
    else if bytes_eq n (codes "required") then required
    else if bytes_eq n (codes "dependentRequired") then dependent_required
    else if bytes_eq n (codes "dependentSchemas") then dependent_schemas
    else if bytes_eq n (codes "dependencies") then dependencies
    else if bytes_eq n (codes "propertyDependencies") then property_dependencies
    else if bytes_eq n (codes "allOf") then all_of
    else if bytes_eq n (codes "anyOf") then any_of
    else if bytes_eq n (codes "oneOf") then one_of
    else if bytes_eq n (codes "not") then not_keyword
    else if bytes_eq n (codes "if") then if_keyword
    else if bytes_eq n (codes "then") then then_keyword
    else if bytes_eq n (codes "else") then else_keyword
    else if is_among n unsupported_names then unsupported
    else leaf_or_unread (W.reads n)
