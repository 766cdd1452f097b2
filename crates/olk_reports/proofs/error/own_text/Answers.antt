use Rattle.std.proofs.Common.{◌≡◌, false, Result, Ok, Err, IfOk}
use mathlib.Core.Bool.{true≢false}
use Rattle.olk_reports.proofs.Errors.{kind_of_additional_properties, kind_of_any_of, kind_of_one_of_not_valid, kind_of_one_of_multiple_valid, kind_of_not, kind_of_required, kind_of_false_schema, kind_of_property_names, kind_of_single_type, kind_of_multiple_types, kind_of_unique_items, kind_of_regex, kind_of_unsupported, kind_of_leaf_refused}
use Rattle.olk_reports.proofs.error.own_text.Goals as goal

always : {T E : Type 0} (P : T → Type 0) (r : Result T E) → IfOk r P → IfOk r (λ x. false ≡ false → P x)
always P (Ok x) p = λ _. p
always P (Err e) p = tt

pub returns-in-AdditionalProperties : goal.returns-in-AdditionalProperties
returns-in-AdditionalProperties c = rw (c.in-AdditionalProperties.is, kind_of_additional_properties, ← c.as_slice.ensures.value) (λ _. always _ _ c.names_text.ensures)

pub returns-in-AnyOf : goal.returns-in-AnyOf
returns-in-AnyOf c = rw (c.in-AnyOf.is, kind_of_any_of) (λ _. c.starting_text.ensures)

pub returns-in-OneOfNotValid : goal.returns-in-OneOfNotValid
returns-in-OneOfNotValid c = rw (c.in-OneOfNotValid.is, kind_of_one_of_not_valid) (λ _. c.starting_text-in-OneOfNotValid.ensures)

pub returns-in-OneOfMultipleValid : goal.returns-in-OneOfMultipleValid
returns-in-OneOfMultipleValid c = rw (c.in-OneOfMultipleValid.is, kind_of_one_of_multiple_valid) (λ _. c.starting_text-in-OneOfMultipleValid.ensures)

pub returns-in-MultipleTypes : goal.returns-in-MultipleTypes
returns-in-MultipleTypes c = rw (c.in-MultipleTypes.is, kind_of_multiple_types) (λ _. c.starting_text-in-MultipleTypes.ensures)

pub returns-in-UniqueItems : goal.returns-in-UniqueItems
returns-in-UniqueItems c = rw (c.in-UniqueItems.is, kind_of_unique_items) (λ _. c.starting_text-in-UniqueItems.ensures)

pub returns-in-Regex : goal.returns-in-Regex
returns-in-Regex c = rw (c.in-Regex.is, kind_of_regex) (λ _. c.starting_text-in-Regex.ensures)

pub returns-in-Not : goal.returns-in-Not
returns-in-Not c = rw (c.in-Not.is, kind_of_not) (λ _. c.not_text.ensures)

pub returns-in-FalseSchema : goal.returns-in-FalseSchema
returns-in-FalseSchema c = rw (c.in-FalseSchema.is, kind_of_false_schema) (λ _. c.ending_text.ensures)

pub returns-in-SingleType : goal.returns-in-SingleType
returns-in-SingleType c = rw (c.in-SingleType.is, kind_of_single_type) (λ _. c.type_error_text.ensures)

pub returns-in-LeafRefused : goal.returns-in-LeafRefused
returns-in-LeafRefused c = rw (c.in-LeafRefused.is, kind_of_leaf_refused) (λ _. c.leaf_refused_text.ensures)

pub returns-in-PropertyNames : goal.returns-in-PropertyNames
returns-in-PropertyNames c = rw (c.in-PropertyNames.is, kind_of_property_names) (λ none. absurd (true≢false none))

pub returns-in-Required : goal.returns-in-Required
returns-in-Required c = rw (c.in-Required.is, kind_of_required) (λ _. always _ _ c.required_text.ensures)

pub returns-in-Unsupported : goal.returns-in-Unsupported
returns-in-Unsupported c = rw (c.in-Unsupported.is, kind_of_unsupported) (λ _. always _ _ c.name_text.ensures)
