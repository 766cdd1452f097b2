-- What each validator of `additionalProperties` holds.
use Rattle.std.specs.Prelude.{[], Some, None, string_bytes}
use Rattle.olk_tree.specs.Additional.{Held}
use Rattle.olk_tree.specs.declared.additional_properties.AdditionalProperties.{AdditionalProperties}
use Rattle.olk_tree.specs.declared.additional_properties.AdditionalPropertiesFalse.{AdditionalPropertiesFalse}
use Rattle.olk_tree.specs.declared.additional_properties.AdditionalPropertiesNotEmpty.{AdditionalPropertiesNotEmpty}
use Rattle.olk_tree.specs.declared.additional_properties.AdditionalPropertiesNotEmptyFalse.{AdditionalPropertiesNotEmptyFalse}
use Rattle.olk_tree.specs.declared.additional_properties.AdditionalPropertiesNotEmptyFalseWithRequired1.{AdditionalPropertiesNotEmptyFalseWithRequired1}
use Rattle.olk_tree.specs.declared.additional_properties.AdditionalPropertiesWithPatterns.{AdditionalPropertiesWithPatterns}
use Rattle.olk_tree.specs.declared.additional_properties.AdditionalPropertiesWithPatternsFalse.{AdditionalPropertiesWithPatternsFalse}
use Rattle.olk_tree.specs.declared.additional_properties.AdditionalPropertiesWithPatternsNotEmpty.{AdditionalPropertiesWithPatternsNotEmpty}
use Rattle.olk_tree.specs.declared.additional_properties.AdditionalPropertiesWithPatternsNotEmptyFalse.{AdditionalPropertiesWithPatternsNotEmptyFalse}
use Rattle.olk_tree.specs.declared.additional_properties.Restriction.{Restriction}
use Rattle.olk_tree.specs.declared.additional_properties.Restriction.TheVariants as by

module _ {R N : Type 0} where
  abbrev pub schema_holds : AdditionalProperties N → Held R N
  schema_holds k = record { properties = None; patterns = None; table = None; rest = Some k.node; required = None; location = k.location; patterns_location = [] }

  abbrev pub false_holds : AdditionalPropertiesFalse → Held R N
  false_holds k = record { properties = None; patterns = None; table = None; rest = None; required = None; location = k.location; patterns_location = [] }

  abbrev pub not_empty_holds : AdditionalPropertiesNotEmpty N → Held R N
  not_empty_holds k = record { properties = Some k.properties; patterns = None; table = None; rest = Some k.node; required = None; location = k.location; patterns_location = [] }

  abbrev pub not_empty_false_holds : AdditionalPropertiesNotEmptyFalse N → Held R N
  not_empty_false_holds k = record { properties = Some k.properties; patterns = None; table = None; rest = None; required = None; location = k.location; patterns_location = [] }

  abbrev pub with_required1_holds : AdditionalPropertiesNotEmptyFalseWithRequired1 N → Held R N
  with_required1_holds k = record { properties = Some k.properties; patterns = None; table = None; rest = None; required = Some (string_bytes k.required, k.required_location); location = k.location; patterns_location = [] }

  abbrev pub with_patterns_holds : AdditionalPropertiesWithPatterns R N → Held R N
  with_patterns_holds k = record { properties = None; patterns = Some k.patterns.items; table = None; rest = Some k.node; required = None; location = k.location; patterns_location = k.pattern_keyword_path }

  abbrev pub with_patterns_false_holds : AdditionalPropertiesWithPatternsFalse R N → Held R N
  with_patterns_false_holds k = record { properties = None; patterns = Some k.patterns.items; table = None; rest = None; required = None; location = k.location; patterns_location = k.pattern_keyword_path }

  abbrev pub with_both_holds : AdditionalPropertiesWithPatternsNotEmpty R N → Held R N
  with_both_holds k = record { properties = Some k.properties; patterns = Some k.patterns.items; table = Some k.property_pattern_indices; rest = Some k.node; required = None; location = k.location; patterns_location = [] }

  abbrev pub with_both_false_holds : AdditionalPropertiesWithPatternsNotEmptyFalse R N → Held R N
  with_both_false_holds k = record { properties = Some k.properties; patterns = Some k.patterns.items; table = Some k.property_pattern_indices; rest = None; required = None; location = k.location; patterns_location = [] }

  abbrev pub held : Restriction R N → Held R N
  held (by.Schema k) = schema_holds k.value
  held (by.False k) = false_holds k
  held (by.NotEmpty k) = not_empty_holds k.value
  held (by.NotEmptyFalse k) = not_empty_false_holds k.value
  held (by.NotEmptyFalseWithRequired1 k) = with_required1_holds k.value
  held (by.WithPatterns k) = with_patterns_holds k.value
  held (by.WithPatternsFalse k) = with_patterns_false_holds k.value
  held (by.WithPatternsNotEmpty k) = with_both_holds k.value
  held (by.WithPatternsNotEmptyFalse k) = with_both_false_holds k.value
