use Rattle.std.proofs.Common.{◌++◌, refl}
use Rattle.olk_base.specs.Kit.{world}
use Rattle.serde_json.specs.View.{view}
use Rattle.olk_reports.proofs.Errors.{kind_of_unsupported}
use Rattle.olk_meaning.specs.Conditions.{known}
use Rattle.olk_build.proofs.Spending.{exit, exit_with, refuses_memory, within_nothing}
use Rattle.olk_build.proofs.Read.{conditional_is_read, others_are_read, names_are_read, object_is_right, array_is_right, refuses_own, refuses_name, is_read}
use Rattle.olk_spec.specs.Schemas.{members}
use Rattle.olk_build.proofs.ReadEntries.{name_lists_are_arrays}
use Rattle.olk_build.specs.declared.shape.Shape.TheVariants as shape
use Rattle.olk_build.specs.declared.reading.KeywordFor.TheVariants as for
use Rattle.olk_build.proofs.reading.read_keyword.Goals as goal

pub returns-in_err-names_of_object-in-Properties-clause-refused : goal.returns-in_err-names_of_object-in-Properties-clause-refused
returns-in_err-names_of_object-in-Properties-clause-refused g c =
    exit_with _ _ _ c.from_residual.ensures.1 (refuses_own (world g.L.Leaf.Leaf g.M.Engine.RegexEngine) _ (view c.args.value.now) c.args.location.now c.in-Properties.is c.keyword_for.ensures c.in_err-names_of_object-in-Properties.ensures.refused)

pub returns-in_err-texts_of_array-in-Required-clause-refused : goal.returns-in_err-texts_of_array-in-Required-clause-refused
returns-in_err-texts_of_array-in-Required-clause-refused g c =
    exit_with _ _ _ c.from_residual-in_err-texts_of_array-in-Required.ensures.1 (refuses_own (world g.L.Leaf.Leaf g.M.Engine.RegexEngine) _ (view c.args.value.now) c.args.location.now c.in-Required.is c.keyword_for.ensures c.in_err-texts_of_array-in-Required.ensures.refused)

pub returns-in_err-keys-in-DependentRequired-clause-refused : goal.returns-in_err-keys-in-DependentRequired-clause-refused
returns-in_err-keys-in-DependentRequired-clause-refused g c =
    exit_with _ _ _ c.from_residual-in_err-keys-in-DependentRequired.ensures.1 (refuses_own (world g.L.Leaf.Leaf g.M.Engine.RegexEngine) _ (view c.args.value.now) c.args.location.now c.in-DependentRequired.is c.keyword_for.ensures c.in_err-keys-in-DependentRequired.ensures.refused)

pub returns-in_err-names_of_object-in-DependentSchemas-clause-refused : goal.returns-in_err-names_of_object-in-DependentSchemas-clause-refused
returns-in_err-names_of_object-in-DependentSchemas-clause-refused g c =
    exit_with _ _ _ c.from_residual-in_err-names_of_object-in-DependentSchemas.ensures.1 (refuses_own (world g.L.Leaf.Leaf g.M.Engine.RegexEngine) _ (view c.args.value.now) c.args.location.now c.in-DependentSchemas.is c.keyword_for.ensures c.in_err-names_of_object-in-DependentSchemas.ensures.refused)

pub returns-in_err-keys-in-Dependencies-clause-refused : goal.returns-in_err-keys-in-Dependencies-clause-refused
returns-in_err-keys-in-Dependencies-clause-refused g c =
    exit_with _ _ _ c.from_residual-in_err-keys-in-Dependencies.ensures.1 (refuses_own (world g.L.Leaf.Leaf g.M.Engine.RegexEngine) _ (view c.args.value.now) c.args.location.now c.in-Dependencies.is c.keyword_for.ensures c.in_err-keys-in-Dependencies.ensures.refused)

pub returns-in_err-keys-in-PropertyDependencies-clause-refused : goal.returns-in_err-keys-in-PropertyDependencies-clause-refused
returns-in_err-keys-in-PropertyDependencies-clause-refused g c =
    exit_with _ _ _ c.from_residual-in_err-keys-in-PropertyDependencies.ensures.1 (refuses_own (world g.L.Leaf.Leaf g.M.Engine.RegexEngine) _ (view c.args.value.now) c.args.location.now c.in-PropertyDependencies.is c.keyword_for.ensures c.in_err-keys-in-PropertyDependencies.ensures.refused)

pub returns-in_err-shape_of_others-in-AdditionalProperties-clause-refused : goal.returns-in_err-shape_of_others-in-AdditionalProperties-clause-refused
returns-in_err-shape_of_others-in-AdditionalProperties-clause-refused g c =
    exit_with _ _ _ c.from_residual-in_err-shape_of_others-in-AdditionalProperties.ensures.1 (refuses_own (world g.L.Leaf.Leaf g.M.Engine.RegexEngine) _ (view c.args.value.now) c.args.location.now c.in-AdditionalProperties.is c.keyword_for.ensures c.in_err-shape_of_others-in-AdditionalProperties.ensures.refused)

pub returns-in_err-shape_of_branches-in-AllOf-clause-refused : goal.returns-in_err-shape_of_branches-in-AllOf-clause-refused
returns-in_err-shape_of_branches-in-AllOf-clause-refused g c =
    exit_with _ _ _ c.from_residual-in_err-shape_of_branches-in-AllOf.ensures.1 (refuses_own (world g.L.Leaf.Leaf g.M.Engine.RegexEngine) _ (view c.args.value.now) c.args.location.now c.in-AllOf.is c.keyword_for.ensures c.in_err-shape_of_branches-in-AllOf.ensures.refused)

pub returns-in_err-shape_of_branches-in-AnyOf-clause-refused : goal.returns-in_err-shape_of_branches-in-AnyOf-clause-refused
returns-in_err-shape_of_branches-in-AnyOf-clause-refused g c =
    exit_with _ _ _ c.from_residual-in_err-shape_of_branches-in-AnyOf.ensures.1 (refuses_own (world g.L.Leaf.Leaf g.M.Engine.RegexEngine) _ (view c.args.value.now) c.args.location.now c.in-AnyOf.is c.keyword_for.ensures c.in_err-shape_of_branches-in-AnyOf.ensures.refused)

pub returns-in_err-shape_of_branches-in-OneOf-clause-refused : goal.returns-in_err-shape_of_branches-in-OneOf-clause-refused
returns-in_err-shape_of_branches-in-OneOf-clause-refused g c =
    exit_with _ _ _ c.from_residual-in_err-shape_of_branches-in-OneOf.ensures.1 (refuses_own (world g.L.Leaf.Leaf g.M.Engine.RegexEngine) _ (view c.args.value.now) c.args.location.now c.in-OneOf.is c.keyword_for.ensures c.in_err-shape_of_branches-in-OneOf.ensures.refused)

pub returns-in_err-clone-in-Not-clause-refused : goal.returns-in_err-clone-in-Not-clause-refused
returns-in_err-clone-in-Not-clause-refused g c = exit _ _ _ c.from_residual-in_err-clone-in-Not.ensures.1 (refuses_memory within_nothing)

pub returns-in-Refused : goal.returns-in-Refused
returns-in-Refused g c =
    let h = rw c.in-Refused.is at c.keyword_for.ensures in
    record { built = tt; refused = refuses_name (world g.L.Leaf.Leaf g.M.Engine.RegexEngine) c.args.name.now (view c.args.value.now) c.args.location.now h.0 h.1 (rw (kind_of_unsupported c.args.name) at c.refuse.ensures) }

pub returns-in-PropertyNames-clause-built : goal.returns-in-PropertyNames-clause-built
returns-in-PropertyNames-clause-built g c = rw c.shape_of_names.ensures (names_are_read _ _ (rw c.in-PropertyNames.is at c.keyword_for.ensures))

pub returns-in_ok-keys-in-DependentRequired-clause-built : goal.returns-in_ok-keys-in-DependentRequired-clause-built
returns-in_ok-keys-in-DependentRequired-clause-built g c =
    is_read _ for.DependentRequired (rw c.in-DependentRequired.is at c.keyword_for.ensures) refl (
      refl,
      c.in_ok-keys-in-DependentRequired.ensures.object,
      c.in_ok-keys-in-DependentRequired.ensures.keys,
      name_lists_are_arrays c.args.location.now (members (view c.args.value.now)) c.in_ok-keys-in-DependentRequired.ensures.right,
      c.in_ok-keys-in-DependentRequired.ensures.names,
    ) tt
    (λ i. object_is_right (view c.args.value.now) c.args.location.now c.in_ok-keys-in-DependentRequired.ensures.object i ++ c.in_ok-keys-in-DependentRequired.ensures.right i) refl

pub returns-in_ok-keys-in-Dependencies-clause-built : goal.returns-in_ok-keys-in-Dependencies-clause-built
returns-in_ok-keys-in-Dependencies-clause-built g c = is_read _ for.Dependencies (rw c.in-Dependencies.is at c.keyword_for.ensures) refl
    (refl, c.in_ok-keys-in-Dependencies.ensures.object, c.in_ok-keys-in-Dependencies.ensures.keys, c.in_ok-keys-in-Dependencies.ensures.lists) tt
    (λ i. object_is_right (view c.args.value.now) c.args.location.now c.in_ok-keys-in-Dependencies.ensures.object i ++ c.in_ok-keys-in-Dependencies.ensures.texts i) refl

pub returns-in_ok-keys-in-PropertyDependencies-clause-built : goal.returns-in_ok-keys-in-PropertyDependencies-clause-built
returns-in_ok-keys-in-PropertyDependencies-clause-built g c =
    is_read _ for.PropertyDependencies (rw c.in-PropertyDependencies.is at c.keyword_for.ensures) refl
    (refl, c.in_ok-keys-in-PropertyDependencies.ensures.object, c.in_ok-keys-in-PropertyDependencies.ensures.keys, c.in_ok-keys-in-PropertyDependencies.ensures.texts) tt
    (λ i. object_is_right (view c.args.value.now) c.args.location.now c.in_ok-keys-in-PropertyDependencies.ensures.object i ++ c.in_ok-keys-in-PropertyDependencies.ensures.objects i) refl

pub returns-in-If-clause-built : goal.returns-in-If-clause-built
returns-in-If-clause-built g c = rw c.shape_if_read.ensures
    (conditional_is_read _ for.If shape.If _ (rw c.in-If.is at c.keyword_for.ensures) refl refl (λ e. e) refl refl refl)

pub returns-in-Then-clause-built : goal.returns-in-Then-clause-built
returns-in-Then-clause-built g c = rw c.shape_if_read-in-Then.ensures
    (conditional_is_read _ for.Then shape.Then _ (rw c.in-Then.is at c.keyword_for.ensures) refl refl (λ e. e) refl refl refl)

pub returns-in-Else-clause-built : goal.returns-in-Else-clause-built
returns-in-Else-clause-built g c = rw c.shape_if_read-in-Else.ensures
    (conditional_is_read _ for.Else shape.Else _ (rw c.in-Else.is at c.keyword_for.ensures) refl refl (λ e. e) refl refl refl)

pub returns-in_ok-read_other-in-Other-clause-built : goal.returns-in_ok-read_other-in-Other-clause-built
returns-in_ok-read_other-in-Other-clause-built g c = c.in_ok-read_other-in-Other.ensures.built (known c.args.neighbours)

pub returns-in_ok-names_of_object-in-Properties-clause-built : goal.returns-in_ok-names_of_object-in-Properties-clause-built
returns-in_ok-names_of_object-in-Properties-clause-built g c = is_read _ for.Properties (rw c.in-Properties.is at c.keyword_for.ensures) refl
    (refl, c.in_ok-names_of_object-in-Properties.ensures.object, c.in_ok-names_of_object-in-Properties.ensures.names) tt
    (object_is_right _ _ c.in_ok-names_of_object-in-Properties.ensures.object) refl

pub returns-in_ok-names_of_object-in-DependentSchemas-clause-built : goal.returns-in_ok-names_of_object-in-DependentSchemas-clause-built
returns-in_ok-names_of_object-in-DependentSchemas-clause-built g c =
    is_read _ for.DependentSchemas (rw c.in-DependentSchemas.is at c.keyword_for.ensures) refl
    (refl, c.in_ok-names_of_object-in-DependentSchemas.ensures.object, c.in_ok-names_of_object-in-DependentSchemas.ensures.names) tt
    (object_is_right _ _ c.in_ok-names_of_object-in-DependentSchemas.ensures.object) refl

pub returns-in_ok-texts_of_array-in-Required-clause-built : goal.returns-in_ok-texts_of_array-in-Required-clause-built
returns-in_ok-texts_of_array-in-Required-clause-built g c = is_read _ for.Required (rw c.in-Required.is at c.keyword_for.ensures) refl (
  refl,
  c.in_ok-texts_of_array-in-Required.ensures.array,
  c.in_ok-texts_of_array-in-Required.ensures.names,
) tt (λ i. array_is_right (view c.args.value.now) c.args.location.now c.in_ok-texts_of_array-in-Required.ensures.array i ++ c.in_ok-texts_of_array-in-Required.ensures.texts i) refl

pub returns-in_ok-shape_of_branches-in-AllOf-clause-built : goal.returns-in_ok-shape_of_branches-in-AllOf-clause-built
returns-in_ok-shape_of_branches-in-AllOf-clause-built g c = rw c.in_ok-shape_of_branches-in-AllOf.ensures.same
    (is_read _ for.AllOf (rw c.in-AllOf.is at c.keyword_for.ensures) refl
    (refl, c.in_ok-shape_of_branches-in-AllOf.ensures.array) tt (array_is_right _ _ c.in_ok-shape_of_branches-in-AllOf.ensures.array) refl)

pub returns-in_ok-shape_of_branches-in-AnyOf-clause-built : goal.returns-in_ok-shape_of_branches-in-AnyOf-clause-built
returns-in_ok-shape_of_branches-in-AnyOf-clause-built g c = rw c.in_ok-shape_of_branches-in-AnyOf.ensures.same
    (is_read _ for.AnyOf (rw c.in-AnyOf.is at c.keyword_for.ensures) refl
    (refl, c.in_ok-shape_of_branches-in-AnyOf.ensures.array) tt (array_is_right _ _ c.in_ok-shape_of_branches-in-AnyOf.ensures.array) refl)

pub returns-in_ok-shape_of_branches-in-OneOf-clause-built : goal.returns-in_ok-shape_of_branches-in-OneOf-clause-built
returns-in_ok-shape_of_branches-in-OneOf-clause-built g c = rw c.in_ok-shape_of_branches-in-OneOf.ensures.same
    (is_read _ for.OneOf (rw c.in-OneOf.is at c.keyword_for.ensures) refl
    (refl, c.in_ok-shape_of_branches-in-OneOf.ensures.array) tt (array_is_right _ _ c.in_ok-shape_of_branches-in-OneOf.ensures.array) refl)

pub returns-in_ok-shape_of_others-in-AdditionalProperties-clause-built : goal.returns-in_ok-shape_of_others-in-AdditionalProperties-clause-built
returns-in_ok-shape_of_others-in-AdditionalProperties-clause-built g c = rw c.in_ok-shape_of_others-in-AdditionalProperties.ensures.shape
    (others_are_read _ _ (rw c.in-AdditionalProperties.is at c.keyword_for.ensures) c.in_ok-shape_of_others-in-AdditionalProperties.ensures.rule)

pub returns-in_ok-clone-in-Not-clause-built : goal.returns-in_ok-clone-in-Not-clause-built
returns-in_ok-clone-in-Not-clause-built g c =
    is_read _ for.Not (rw c.in-Not.is at c.keyword_for.ensures) refl (refl, c.in_ok-clone-in-Not.ensures.cases) tt
    refl refl

pub returns-in_ok-shape_of_patterns-in-PatternProperties-clause-built : goal.returns-in_ok-shape_of_patterns-in-PatternProperties-clause-built
returns-in_ok-shape_of_patterns-in-PatternProperties-clause-built g c = rw (rw c.in-PatternProperties.is at c.keyword_for.ensures) (c.in_ok-shape_of_patterns-in-PatternProperties.ensures.built (known c.args.neighbours))

pub returns-in_err-shape_of_patterns-in-PatternProperties-clause-refused : goal.returns-in_err-shape_of_patterns-in-PatternProperties-clause-refused
returns-in_err-shape_of_patterns-in-PatternProperties-clause-refused g c =
    exit_with _ _ _ c.from_residual-in_err-shape_of_patterns-in-PatternProperties.ensures.1 (rw (rw c.in-PatternProperties.is at c.keyword_for.ensures) c.in_err-shape_of_patterns-in-PatternProperties.ensures.refused)

pub returns-in_err-read_other-in-Other-clause-refused : goal.returns-in_err-read_other-in-Other-clause-refused
returns-in_err-read_other-in-Other-clause-refused g c =
    exit_with _ _ _ c.from_residual-in_err-read_other-in-Other.ensures.1 c.in_err-read_other-in-Other.ensures.refused

pub read_other-requires : goal.read_other-requires
read_other-requires g c = let h = rw c.in-Other.is at c.keyword_for.ensures in record { other = h.0; let_through = h.1 }
