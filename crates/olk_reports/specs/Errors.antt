-- The fault that an error stands for.
use Rattle.std.specs.Prelude.{[], map, string_bytes}
use Rattle.serde_json.specs.Data.{Data}
use Rattle.serde_json.specs.View.{view}
use Rattle.olk_spec.specs.Names.{Path}
use Rattle.olk_spec.specs.Faults as told
use Rattle.olk_spec.specs.Faults.{Fault, fault, Kind, context, Type_name, null_type, boolean_type, number_type, string_type, array_type, object_type}
use Rattle.olk_base.specs.Nodes.{data_of}
use Rattle.olk_base.specs.declared.node.Node.{Node}
use Rattle.olk_base.specs.declared.node.JsonType.{JsonType}
use Rattle.olk_base.specs.declared.node.JsonType.TheVariants as json
use Rattle.olk_reports.specs.declared.error.SchemaPath.{SchemaPath}
use Rattle.olk_reports.specs.declared.error.SchemaPath.TheVariants.{Borrowed, Owned, Inner}
use Rattle.olk_reports.specs.declared.error.ValidationError.{ValidationError}
use Rattle.olk_reports.specs.declared.error.ValidationErrorKind.{ValidationErrorKind}
use Rattle.olk_reports.specs.declared.error.ValidationErrorKind.TheOpen.{ValidationErrorKind-F, ValidationError-F}
use Rattle.olk_reports.specs.declared.error.ValidationErrorKind.TheFolds.{fold-ValidationErrorKind, fold-ValidationError}

-- the parts of a fault
abbrev pub fault_kind : Fault → Kind
fault_kind (fault k v Q P) = k

abbrev pub fault_instance : Fault → Data
fault_instance (fault k v Q P) = v

abbrev pub fault_instance_path : Fault → Path
fault_instance_path (fault k v Q P) = Q

abbrev pub fault_schema_path : Fault → Path
fault_schema_path (fault k v Q P) = P

abbrev pub type_name_of : JsonType → Type_name
type_name_of json.Null = null_type
type_name_of json.Boolean = boolean_type
type_name_of json.Number = number_type
type_name_of json.String = string_type
type_name_of json.Array = array_type
type_name_of json.Object = object_type

-- that of the fault inside, where there is one
abbrev pub inner_schema_path : Kind → Path
inner_schema_path (told.PropertyNames f) = fault_schema_path f
inner_schema_path _ = []

abbrev pub schema_path_of : Kind → SchemaPath → Path
schema_path_of k (Borrowed p) = p.now
schema_path_of k (Owned l) = l
schema_path_of k Inner = inner_schema_path k

-- one level of a kind and of an error, each error inside already seen as its fault
abbrev pub kind_step : ValidationErrorKind-F Kind Fault → Kind
kind_step (ValidationErrorKind-F.AdditionalProperties ns) = told.AdditionalProperties (map (λ n. n.now) ns.items)
kind_step (ValidationErrorKind-F.AnyOf c) = told.AnyOf (context (map (λ v. v.items) c.items))
kind_step (ValidationErrorKind-F.OneOfNotValid c) = told.OneOfNotValid (context (map (λ v. v.items) c.items))
kind_step (ValidationErrorKind-F.OneOfMultipleValid c) = told.OneOfMultipleValid (context (map (λ v. v.items) c.items))
kind_step (ValidationErrorKind-F.Not s) = told.Not (view s.now)
kind_step (ValidationErrorKind-F.Required n) = told.Required n.now
kind_step ValidationErrorKind-F.FalseSchema = told.FalseSchema
kind_step (ValidationErrorKind-F.PropertyNames e) = told.PropertyNames e.value
kind_step (ValidationErrorKind-F.Leaf k t) = told.Leaf k.now (string_bytes t)
kind_step (ValidationErrorKind-F.SingleType t) = told.SingleType (type_name_of t)
kind_step ValidationErrorKind-F.MultipleTypes = told.MultipleTypes
kind_step ValidationErrorKind-F.UniqueItems = told.UniqueItems
kind_step ValidationErrorKind-F.Regex = told.Regex
kind_step (ValidationErrorKind-F.Unsupported k) = told.Unsupported k.now
kind_step (ValidationErrorKind-F.LeafRefused k) = told.LeafRefused k.now

abbrev pub error_step : ValidationError-F Kind Fault → Fault
error_step e = fault e.kind (data_of e.instance) e.instance_path (schema_path_of e.kind e.schema_path)

abbrev pub kind_of : ValidationErrorKind → Kind
kind_of = fold-ValidationErrorKind Kind Fault kind_step error_step

abbrev pub fault_of : ValidationError → Fault
fault_of = fold-ValidationError Kind Fault kind_step error_step

-- what an error is about: the very value of the instance, or the very name
abbrev pub value_of : ValidationError → Node
value_of e = e.instance
