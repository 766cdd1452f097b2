use Rattle.olk_spec.proofs.laws.other_values.Goals as goal
use Rattle.olk_spec.proofs.Passing.{passes_properties, passes_pattern_properties, passes_additional_properties, passes_property_names, passes_required, passes_dependent_required, passes_dependent_schemas, passes_dependencies, passes_property_dependencies}

pub returns-clause-properties : goal.returns-clause-properties
returns-clause-properties c = passes_properties

pub returns-clause-pattern_properties : goal.returns-clause-pattern_properties
returns-clause-pattern_properties c = passes_pattern_properties

pub returns-clause-additional_properties : goal.returns-clause-additional_properties
returns-clause-additional_properties c = passes_additional_properties

pub returns-clause-property_names : goal.returns-clause-property_names
returns-clause-property_names c = passes_property_names

pub returns-clause-required : goal.returns-clause-required
returns-clause-required c = passes_required

pub returns-clause-dependent_required : goal.returns-clause-dependent_required
returns-clause-dependent_required c = passes_dependent_required

pub returns-clause-dependent_schemas : goal.returns-clause-dependent_schemas
returns-clause-dependent_schemas c = passes_dependent_schemas

pub returns-clause-dependencies : goal.returns-clause-dependencies
returns-clause-dependencies c = passes_dependencies

pub returns-clause-property_dependencies : goal.returns-clause-property_dependencies
returns-clause-property_dependencies c = passes_property_dependencies
