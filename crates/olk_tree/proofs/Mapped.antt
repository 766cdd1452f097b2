-- What holds nodes, with others in their place.
use Rattle.std.specs.Prelude.{◌≡◌, Vec}
use Rattle.std.specs.declared.alloc.Global.{Global}
use Rattle.std.specs.declared.boxed.Box.{Box}
use Rattle.std.specs.formers.vec.Vec as vec
use Rattle.std.proofs.Common.{refl}
use Rattle.olk_base.specs.declared.pattern.CompiledPattern.{CompiledPattern}
use Rattle.olk_tree.specs.declared.additional_properties.Restriction.{Restriction}
use Rattle.olk_tree.specs.declared.additional_properties.Restriction.TheVariants as by
use Rattle.olk_tree.specs.declared.big_map.BigMap.{BigMap}
use Rattle.olk_tree.specs.declared.map.SmallMap.{SmallMap}
use Rattle.olk_tree.specs.declared.node.Body.{Body}
use Rattle.olk_tree.specs.declared.node.Body.TheVariants.{True, False, Keywords, RequiredNames}
use Rattle.olk_tree.specs.declared.node.KeywordOver.{KeywordOver}
use Rattle.olk_tree.specs.declared.node.KeywordOver.TheVariants as keyword
use Rattle.olk_tree.specs.declared.properties_map.PropertiesMap.{PropertiesMap}
use Rattle.olk_tree.specs.declared.properties_map.PropertiesMap.TheVariants.{Small, Big}

-- a box of another value
abbrev pub boxed : {X Y : Type 0} → Box X Global → Y → Box Y Global
boxed k y = record { ptr = k.ptr; alloc = k.alloc; value = y }

module _ {Y X : Type 0} (h : Y → X) where
  abbrev pub map_mapped : SmallMap Y → SmallMap X
  map_mapped m = record { names = m.names; nodes = vec.mapped h m.nodes }

  abbrev pub maps_mapped : SmallMap (SmallMap Y) → SmallMap (SmallMap X)
  maps_mapped m = record { names = m.names; nodes = vec.mapped map_mapped m.nodes }

  abbrev pub big_map_mapped : BigMap Y → BigMap X
  big_map_mapped m = record { names = m.names; nodes = vec.mapped h m.nodes }

  abbrev pub properties_mapped : PropertiesMap Y → PropertiesMap X
  properties_mapped (Small m) = Small (map_mapped m)
  properties_mapped (Big m) = Big (big_map_mapped m)

  module _ {R : Type 0} where
    abbrev pub entry_mapped : CompiledPattern R × Y → CompiledPattern R × X
    entry_mapped e = (e.0, h e.1)

    abbrev pub patterns_mapped : Vec (CompiledPattern R × Y) Global → Vec (CompiledPattern R × X) Global
    patterns_mapped ps = vec.mapped entry_mapped ps

    abbrev pub restriction_mapped : Restriction R Y → Restriction R X
    restriction_mapped (by.Schema k) = by.Schema (boxed k record { node = h k.value.node; location = k.value.location })
    restriction_mapped (by.False k) = by.False k
    restriction_mapped (by.NotEmpty k) = by.NotEmpty (boxed k record { properties = properties_mapped k.value.properties; node = h k.value.node; location = k.value.location })
    restriction_mapped (by.NotEmptyFalse k) = by.NotEmptyFalse (boxed k record { properties = properties_mapped k.value.properties; location = k.value.location })
    restriction_mapped (by.NotEmptyFalseWithRequired1 k) = by.NotEmptyFalseWithRequired1 (boxed k record {
      properties = properties_mapped k.value.properties;
      required = k.value.required;
      location = k.value.location;
      required_location = k.value.required_location;
    })
    restriction_mapped (by.WithPatterns k) = by.WithPatterns (boxed k record {
      patterns = patterns_mapped k.value.patterns;
      node = h k.value.node;
      location = k.value.location;
      pattern_keyword_path = k.value.pattern_keyword_path;
    })
    restriction_mapped (by.WithPatternsFalse k) = by.WithPatternsFalse (boxed k record {
      patterns = patterns_mapped k.value.patterns;
      location = k.value.location;
      pattern_keyword_path = k.value.pattern_keyword_path;
    })
    restriction_mapped (by.WithPatternsNotEmpty k) = by.WithPatternsNotEmpty (boxed k record {
      properties = properties_mapped k.value.properties;
      patterns = patterns_mapped k.value.patterns;
      property_pattern_indices = k.value.property_pattern_indices;
      node = h k.value.node;
      location = k.value.location;
    })
    restriction_mapped (by.WithPatternsNotEmptyFalse k) = by.WithPatternsNotEmptyFalse (boxed k record {
      properties = properties_mapped k.value.properties;
      patterns = patterns_mapped k.value.patterns;
      property_pattern_indices = k.value.property_pattern_indices;
      location = k.value.location;
    })

    module _ {K : Type 0} where
      abbrev pub keyword_mapped : KeywordOver K R Y → KeywordOver K R X
      keyword_mapped (keyword.SmallProperties k) = keyword.SmallProperties record { properties = map_mapped k.properties; location = k.location }
      keyword_mapped (keyword.BigProperties k) = keyword.BigProperties record { properties = big_map_mapped k.properties; location = k.location }
      keyword_mapped (keyword.PropertiesWithRequired2 k) = keyword.PropertiesWithRequired2 (boxed k record {
        properties = map_mapped k.value.properties;
        first = k.value.first;
        second = k.value.second;
        location = k.value.location;
        required_location = k.value.required_location;
      })
      keyword_mapped (keyword.Required k) = keyword.Required k
      keyword_mapped (keyword.AllOf k) = keyword.AllOf record { schemas = vec.mapped h k.schemas; location = k.location }
      keyword_mapped (keyword.SingleValueAllOf k) = keyword.SingleValueAllOf record { node = h k.node; location = k.location }
      keyword_mapped (keyword.AnyOf k) = keyword.AnyOf record { schemas = vec.mapped h k.schemas; location = k.location }
      keyword_mapped (keyword.SingleAnyOf k) = keyword.SingleAnyOf record { node = h k.node; location = k.location }
      keyword_mapped (keyword.OneOf k) = keyword.OneOf record { schemas = vec.mapped h k.schemas; location = k.location }
      keyword_mapped (keyword.SingleOneOf k) = keyword.SingleOneOf record { node = h k.node; location = k.location }
      keyword_mapped (keyword.Not k) = keyword.Not record { original = k.original; node = h k.node; location = k.location }
      keyword_mapped (keyword.IfThen k) = keyword.IfThen (boxed k record { schema = h k.value.schema; then_schema = h k.value.then_schema; location = k.value.location })
      keyword_mapped (keyword.IfElse k) = keyword.IfElse (boxed k record { schema = h k.value.schema; else_schema = h k.value.else_schema; location = k.value.location })
      keyword_mapped (keyword.IfThenElse k) = keyword.IfThenElse (boxed k record {
        schema = h k.value.schema;
        then_schema = h k.value.then_schema;
        else_schema = h k.value.else_schema;
        location = k.value.location;
      })
      keyword_mapped (keyword.Dependencies k) = keyword.Dependencies record { dependencies = map_mapped k.dependencies; location = k.location }
      keyword_mapped (keyword.DependentRequired k) = keyword.DependentRequired record { dependencies = map_mapped k.dependencies; location = k.location }
      keyword_mapped (keyword.DependentSchemas k) = keyword.DependentSchemas record { dependencies = map_mapped k.dependencies; location = k.location }
      keyword_mapped (keyword.PropertyNames k) = keyword.PropertyNames record { node = h k.node; location = k.location }
      keyword_mapped (keyword.PropertyNamesFalse k) = keyword.PropertyNamesFalse k
      keyword_mapped (keyword.PropertyDependencies k) = keyword.PropertyDependencies record { dependencies = maps_mapped k.dependencies; location = k.location }
      keyword_mapped (keyword.PatternProperties k) = keyword.PatternProperties record { patterns = patterns_mapped k.patterns; location = k.location }
      keyword_mapped (keyword.SingleValuePatternProperties k) = keyword.SingleValuePatternProperties (boxed k record { regex = k.value.regex; node = h k.value.node; location = k.value.location })
      keyword_mapped (keyword.AdditionalProperties k) = keyword.AdditionalProperties (restriction_mapped k)
      keyword_mapped (keyword.Leaf P l) = keyword.Leaf P l

      abbrev pub body_mapped : Body (KeywordOver K R Y) → Body (KeywordOver K R X)
      body_mapped True = True
      body_mapped False = False
      body_mapped (Keywords ks) = Keywords (vec.mapped keyword_mapped ks)
      body_mapped (RequiredNames k) = RequiredNames k

-- what holds where a map is of few names, and where it is of many
pub few_or_many : {N G : Type 0} (m : PropertiesMap N) → ((s : SmallMap N) → m ≡ Small s → G) → ((b : BigMap N) → m ≡ Big b → G) → G
few_or_many (Small m) few many = few m refl
few_or_many (Big m) few many = many m refl
