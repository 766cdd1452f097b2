-- Which name a keyword has.
use Rattle.std.specs.Prelude.{◌≡◌, ⊤, Bool, true, false, codes, if◌then◌else◌, bytes_eq}
use Rattle.std.proofs.Common.{refl}
use Rattle.olk_spec.specs.Names.{Name, is_among}
use Rattle.olk_spec.specs.World.{World}
use Rattle.olk_spec.specs.Vocabulary.{Keyword, properties, pattern_properties, additional_properties, property_names, required, dependent_required, dependent_schemas, dependencies, property_dependencies, all_of, any_of, one_of, not_keyword, if_keyword, then_keyword, else_keyword, unsupported, leaf, unread, keyword_named, leaf_or_unread, unsupported_names}
use Rattle.olk_spec.proofs.Walks.{same_name}

-- the name is that of the keyword, where this keyword has one name
abbrev pub Named : Name → Keyword → Type 0
Named n properties = n ≡ codes "properties"
Named n pattern_properties = n ≡ codes "patternProperties"
Named n additional_properties = n ≡ codes "additionalProperties"
Named n property_names = n ≡ codes "propertyNames"
Named n required = n ≡ codes "required"
Named n dependent_required = n ≡ codes "dependentRequired"
Named n dependent_schemas = n ≡ codes "dependentSchemas"
Named n dependencies = n ≡ codes "dependencies"
Named n property_dependencies = n ≡ codes "propertyDependencies"
Named n all_of = n ≡ codes "allOf"
Named n any_of = n ≡ codes "anyOf"
Named n one_of = n ≡ codes "oneOf"
Named n not_keyword = n ≡ codes "not"
Named n if_keyword = n ≡ codes "if"
Named n then_keyword = n ≡ codes "then"
Named n else_keyword = n ≡ codes "else"
Named n unsupported = ⊤
Named n leaf = ⊤
Named n unread = ⊤

module _ (n : Name) where
  either : (b : Bool) (w other : Keyword) → (b ≡ true → Named n w) → Named n other → Named n (if b then w else other)
  either true w other h k = h refl
  either false w other h k = k

  is : (name : Name) → bytes_eq n name ≡ true → n ≡ name
  is name e = same_name n name e

  last : (b : Bool) → Named n (leaf_or_unread b)
  last true = tt
  last false = tt

  pub named : (W : World) → Named n (keyword_named W n)
  named W =
      either (bytes_eq n (codes "properties")) _ _ (is (codes "properties"))
      (either (bytes_eq n (codes "patternProperties")) _ _ (is (codes "patternProperties"))
      (either (bytes_eq n (codes "additionalProperties")) _ _ (is (codes "additionalProperties"))
      (either (bytes_eq n (codes "propertyNames")) _ _ (is (codes "propertyNames"))
      (either (bytes_eq n (codes "required")) _ _ (is (codes "required"))
      (either (bytes_eq n (codes "dependentRequired")) _ _ (is (codes "dependentRequired"))
      (either (bytes_eq n (codes "dependentSchemas")) _ _ (is (codes "dependentSchemas"))
      (either (bytes_eq n (codes "dependencies")) _ _ (is (codes "dependencies"))
      (either (bytes_eq n (codes "propertyDependencies")) _ _ (is (codes "propertyDependencies"))
      (either (bytes_eq n (codes "allOf")) _ _ (is (codes "allOf"))
      (either (bytes_eq n (codes "anyOf")) _ _ (is (codes "anyOf"))
      (either (bytes_eq n (codes "oneOf")) _ _ (is (codes "oneOf"))
      (either (bytes_eq n (codes "not")) _ _ (is (codes "not"))
      (either (bytes_eq n (codes "if")) _ _ (is (codes "if"))
      (either (bytes_eq n (codes "then")) _ _ (is (codes "then"))
      (either (bytes_eq n (codes "else")) _ _ (is (codes "else"))
      (either (is_among n unsupported_names) unsupported _ (λ e. tt) (last (W.reads n))))))))))))))))))
