-- What is wrong with a keyword itself doesn't depend on what the places inside answer.
use Rattle.std.proofs.Common.{◌≡◌, [], ◌∷◌, ◌++◌, refl, sym, ◌∙◌, ap}
use Rattle.serde_json.specs.Data.{Data}
use Rattle.olk_spec.specs.Names.{Name, Path}
use Rattle.olk_spec.specs.World.{World}
use Rattle.olk_spec.specs.Vocabulary.{Keyword, properties, pattern_properties, additional_properties, required, dependent_required, dependent_schemas, dependencies, property_dependencies}
use Rattle.olk_spec.specs.Vocabulary.{all_of, any_of, one_of, unsupported, leaf}
use Rattle.olk_spec.specs.Faults.{Unsupported, LeafRefused}
use Rattle.olk_spec.specs.Schemas.{Schema, read}
use Rattle.olk_spec.specs.Malformed.{own_refusals, refusal, unless_kind, unless_object, unless_array, not_a_text}
use Rattle.olk_spec.proofs.Reading.{schema_of_read}
use Rattle.olk_meaning.proofs.AdditionalProperties.{additional_refusals}
use Rattle.olk_meaning.proofs.Dependencies.{dependent_required_refusals, dependencies_refusals}
use Rattle.olk_meaning.proofs.PatternProperties.{pattern_properties_refusals}
use Rattle.olk_meaning.proofs.PropertyDependencies.{property_dependencies_refusals}

module _ {X Y : Type 0} (f : Schema X → X) (g : Schema Y → Y) (W : World) (k : Name) (d : Data) (L : Path) where
  same : (read f d).whole.schema ≡ (read g d).whole.schema
  same = schema_of_read f d ∙ sym (schema_of_read g d)

  pub same_refusals : (w : Keyword) → own_refusals W k (read f d) L w ≡ own_refusals W k (read g d) L w
  same_refusals properties = ap (λ s. unless_object s L) same
  same_refusals pattern_properties = pattern_properties_refusals f d k W L ∙ sym (pattern_properties_refusals g d k W L)
  same_refusals additional_properties = additional_refusals f d k W L ∙ sym (additional_refusals g d k W L)
  same_refusals required = ap (λ s. unless_array s L ++ not_a_text s L) same
  same_refusals dependent_required = dependent_required_refusals f d k W L ∙ sym (dependent_required_refusals g d k W L)
  same_refusals dependent_schemas = ap (λ s. unless_object s L) same
  same_refusals dependencies = dependencies_refusals f d k W L ∙ sym (dependencies_refusals g d k W L)
  same_refusals property_dependencies = property_dependencies_refusals f d k W L ∙ sym (property_dependencies_refusals g d k W L)
  same_refusals all_of = ap (λ s. unless_array s L) same
  same_refusals any_of = ap (λ s. unless_array s L) same
  same_refusals one_of = ap (λ s. unless_array s L) same
  same_refusals unsupported = ap (λ s. refusal (Unsupported k) s L ∷ []) same
  same_refusals leaf = ap (λ s. unless_kind (W.fits k s) (LeafRefused k) s L) same
  same_refusals _ = refl
