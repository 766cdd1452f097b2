-- A value that is no object passes the keywords of objects.
use Rattle.std.specs.Prelude.{◌≡◌, false, List, [], ◌∷◌, codes}
use Rattle.std.specs.List.{flat_map}
use Rattle.std.proofs.Common.{refl}
use Rattle.std.proofs.Math.Bool.{or-true}
use Rattle.serde_json.specs.Data.{Data, object}
use Rattle.olk_spec.specs.Names.{filter_once}
use Rattle.olk_spec.specs.Schemas.{members, is_object}
use Rattle.olk_spec.specs.Meaning.{meaning}
use Rattle.olk_spec.specs.Laws.{Passes}
use mathlib.Core.Bool.{true≢false}

pub flat_map-none : {A B : Type 0} (xs : List A) → flat_map {A = B} (λ x. []) xs ≡ []
flat_map-none [] = refl
flat_map-none (x ∷ xs) = flat_map-none xs

pub filter_once-none : {A : Type 0} (xs : List A) → filter_once (λ x. false) xs ≡ []
filter_once-none [] = refl
filter_once-none (x ∷ xs) = filter_once-none xs

pub no_members : (v : Data) → is_object v ≡ false → members v ≡ []
no_members (object ms) h = absurd (true≢false h)
no_members _ h = refl

pub passes_properties : Passes (codes "properties")
unfolding meaning
passes_properties W u d v h = simp (no_members v h, flat_map-none) refl

pub passes_pattern_properties : Passes (codes "patternProperties")
unfolding meaning
passes_pattern_properties W u d v h = simp (no_members v h, flat_map-none) refl

pub passes_additional_properties : Passes (codes "additionalProperties")
unfolding meaning
passes_additional_properties W u d v h = simp (no_members v h, or-true) refl

pub passes_property_names : Passes (codes "propertyNames")
unfolding meaning
passes_property_names W u d v h = simp (no_members v h, or-true) refl

pub passes_required : Passes (codes "required")
unfolding meaning
passes_required W u d v h = simp (h, filter_once-none) refl

pub passes_dependent_required : Passes (codes "dependentRequired")
unfolding meaning
passes_dependent_required W u d v h = simp (no_members v h, filter_once-none) refl

pub passes_dependent_schemas : Passes (codes "dependentSchemas")
unfolding meaning
passes_dependent_schemas W u d v h = simp (no_members v h, filter_once-none) refl

pub passes_dependencies : Passes (codes "dependencies")
unfolding meaning
passes_dependencies W u d v h = simp (no_members v h, filter_once-none) refl

pub passes_property_dependencies : Passes (codes "propertyDependencies")
unfolding meaning
passes_property_dependencies W u d v h = simp (no_members v h, flat_map-none) refl
