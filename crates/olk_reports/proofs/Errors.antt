-- The equations of `kind_of` and `fault_of`.
use Rattle.std.proofs.Common.{◌≡◌, ℕ, List, map, sym, ap, ◌∙◌, refl, Vec, Bor, Box, String, string_bytes}
use Rattle.std.proofs.lemmas.Simd.{map-map}
use Rattle.std.specs.declared.alloc.Global.{Global}
use Rattle.serde_json.specs.Data.{Data}
use Rattle.serde_json.specs.View.{view}
use Rattle.serde_json.specs.declared.value.Value.{Value}
use Rattle.olk_base.specs.declared.node.JsonType.{JsonType}
use Rattle.olk_spec.specs.Names.{Path}
use Rattle.olk_spec.specs.Faults as told
use Rattle.olk_spec.specs.Faults.{Fault, fault, Kind, context}
use Rattle.olk_spec.specs.Reports.{wrapped}
use Rattle.olk_base.specs.Nodes.{data_of}
use Rattle.olk_base.specs.declared.node.Node.{Node}
use Rattle.olk_reports.specs.Errors.{kind_of, fault_of, kind_step, error_step, type_name_of, schema_path_of, fault_schema_path}
use Rattle.olk_reports.specs.declared.error.SchemaPath.{SchemaPath}
use Rattle.olk_reports.specs.declared.error.ValidationError.{ValidationError, roll-ValidationError, out-ValidationError}
use Rattle.olk_reports.specs.declared.error.ValidationErrorKind.{ValidationErrorKind}
use Rattle.olk_reports.specs.declared.error.ValidationErrorKind as the
use Rattle.olk_reports.specs.declared.error.ValidationErrorKind.TheVariants.{rolls-AdditionalProperties, rolls-AnyOf, rolls-OneOfNotValid, rolls-OneOfMultipleValid, rolls-Not, rolls-Required, rolls-FalseSchema, rolls-PropertyNames, rolls-Leaf, rolls-SingleType, rolls-MultipleTypes, rolls-UniqueItems, rolls-Regex, rolls-Unsupported, rolls-LeafRefused}
use Rattle.olk_reports.specs.declared.error.ValidationErrorKind.TheOpen.{ValidationErrorKind-F}
use Rattle.olk_reports.specs.declared.error.ValidationErrorKind.TheFolds.{fold-roll-ValidationErrorKind, fold-roll-ValidationError, fold_out-ValidationError}

abbrev pub Contexts : Type 0
Contexts = Vec (Vec ValidationError Global) Global

-- the faults that a context has of each subschema
abbrev pub context_faults : Contexts → List (List Fault)
context_faults c = map (λ v. map fault_of v.items) c.items

pub kind_of_additional_properties : (n : Vec (Bor (List ℕ)) Global) → kind_of (the.AdditionalProperties n) ≡ told.AdditionalProperties (map (λ m. m.now) n.items)
kind_of_additional_properties n = ap kind_of (sym (rolls-AdditionalProperties n)) ∙ fold-roll-ValidationErrorKind Kind Fault kind_step error_step (ValidationErrorKind-F.AdditionalProperties n)

pub kind_of_any_of : (c : Contexts) → kind_of (the.AnyOf c) ≡ told.AnyOf (context (context_faults c))
kind_of_any_of c =
    ap kind_of (sym (rolls-AnyOf c)) ∙ fold-roll-ValidationErrorKind Kind Fault kind_step error_step (ValidationErrorKind-F.AnyOf c) ∙ ap (λ l. told.AnyOf (context l)) (map-map _ _ c.items)

pub kind_of_one_of_not_valid : (c : Contexts) → kind_of (the.OneOfNotValid c) ≡ told.OneOfNotValid (context (context_faults c))
kind_of_one_of_not_valid c =
    ap kind_of (sym (rolls-OneOfNotValid c)) ∙ fold-roll-ValidationErrorKind Kind Fault kind_step error_step (ValidationErrorKind-F.OneOfNotValid c)
    ∙ ap (λ l. told.OneOfNotValid (context l)) (map-map _ _ c.items)

pub kind_of_one_of_multiple_valid : (c : Contexts) → kind_of (the.OneOfMultipleValid c) ≡ told.OneOfMultipleValid (context (context_faults c))
kind_of_one_of_multiple_valid c =
    ap kind_of (sym (rolls-OneOfMultipleValid c)) ∙ fold-roll-ValidationErrorKind Kind Fault kind_step error_step (ValidationErrorKind-F.OneOfMultipleValid c)
    ∙ ap (λ l. told.OneOfMultipleValid (context l)) (map-map _ _ c.items)

pub kind_of_not : (s : Bor Value) → kind_of (the.Not s) ≡ told.Not (view s.now)
kind_of_not s = ap kind_of (sym (rolls-Not s)) ∙ fold-roll-ValidationErrorKind Kind Fault kind_step error_step (ValidationErrorKind-F.Not s)

pub kind_of_required : (n : Bor (List ℕ)) → kind_of (the.Required n) ≡ told.Required n.now
kind_of_required n = ap kind_of (sym (rolls-Required n)) ∙ fold-roll-ValidationErrorKind Kind Fault kind_step error_step (ValidationErrorKind-F.Required n)

pub kind_of_false_schema : kind_of the.FalseSchema ≡ told.FalseSchema
kind_of_false_schema = ap kind_of (sym rolls-FalseSchema) ∙ fold-roll-ValidationErrorKind Kind Fault kind_step error_step ValidationErrorKind-F.FalseSchema

pub kind_of_property_names : (e : Box ValidationError Global) → kind_of (the.PropertyNames e) ≡ told.PropertyNames (fault_of e.value)
kind_of_property_names e = ap kind_of (sym (rolls-PropertyNames e)) ∙ fold-roll-ValidationErrorKind Kind Fault kind_step error_step (ValidationErrorKind-F.PropertyNames e)

pub kind_of_leaf : (k : Bor (List ℕ)) (t : String Global) → kind_of (the.Leaf k t) ≡ told.Leaf k.now (string_bytes t)
kind_of_leaf k t = ap kind_of (sym (rolls-Leaf k t)) ∙ fold-roll-ValidationErrorKind Kind Fault kind_step error_step (ValidationErrorKind-F.Leaf k t)

pub kind_of_single_type : (t : JsonType) → kind_of (the.SingleType t) ≡ told.SingleType (type_name_of t)
kind_of_single_type t = ap kind_of (sym (rolls-SingleType t)) ∙ fold-roll-ValidationErrorKind Kind Fault kind_step error_step (ValidationErrorKind-F.SingleType t)

pub kind_of_multiple_types : kind_of the.MultipleTypes ≡ told.MultipleTypes
kind_of_multiple_types = ap kind_of (sym rolls-MultipleTypes) ∙ fold-roll-ValidationErrorKind Kind Fault kind_step error_step ValidationErrorKind-F.MultipleTypes

pub kind_of_unique_items : kind_of the.UniqueItems ≡ told.UniqueItems
kind_of_unique_items = ap kind_of (sym rolls-UniqueItems) ∙ fold-roll-ValidationErrorKind Kind Fault kind_step error_step ValidationErrorKind-F.UniqueItems

pub kind_of_regex : kind_of the.Regex ≡ told.Regex
kind_of_regex = ap kind_of (sym rolls-Regex) ∙ fold-roll-ValidationErrorKind Kind Fault kind_step error_step ValidationErrorKind-F.Regex

pub kind_of_unsupported : (k : Bor (List ℕ)) → kind_of (the.Unsupported k) ≡ told.Unsupported k.now
kind_of_unsupported k = ap kind_of (sym (rolls-Unsupported k)) ∙ fold-roll-ValidationErrorKind Kind Fault kind_step error_step (ValidationErrorKind-F.Unsupported k)

pub kind_of_leaf_refused : (k : Bor (List ℕ)) → kind_of (the.LeafRefused k) ≡ told.LeafRefused k.now
kind_of_leaf_refused k = ap kind_of (sym (rolls-LeafRefused k)) ∙ fold-roll-ValidationErrorKind Kind Fault kind_step error_step (ValidationErrorKind-F.LeafRefused k)

pub fault_of_parts : (k : ValidationErrorKind) (n : Node) (t : Path) (s : SchemaPath)
    → fault_of (roll-ValidationError record { kind = k; instance = n; instance_path = t; schema_path = s }) ≡ fault (kind_of k) (data_of n) t (schema_path_of (kind_of k) s)
fault_of_parts k n t s = fold-roll-ValidationError Kind Fault kind_step error_step record { kind = k; instance = n; instance_path = t; schema_path = s }

pub parts_of_fault : (e : ValidationError) → fault_of e ≡ fault (kind_of (out-ValidationError e).kind) (data_of (out-ValidationError e).instance)
    (out-ValidationError e).instance_path (schema_path_of (kind_of (out-ValidationError e).kind) (out-ValidationError e).schema_path)
parts_of_fault e = fold_out-ValidationError Kind Fault kind_step error_step e

pub wrapped_is : (v : Data) (Q : Path) (f : Fault) → wrapped v Q f ≡ fault (told.PropertyNames f) v Q (fault_schema_path f)
wrapped_is v Q (fault k n R P) = refl

pub ruleset kinds = (
  kind_of_additional_properties,
  kind_of_any_of,
  kind_of_one_of_not_valid,
  kind_of_one_of_multiple_valid,
  kind_of_not,
  kind_of_required,
  kind_of_false_schema,
  kind_of_property_names,
  kind_of_leaf,
  kind_of_single_type,
  kind_of_multiple_types,
  kind_of_unique_items,
  kind_of_regex,
  kind_of_unsupported,
  kind_of_leaf_refused,
)
