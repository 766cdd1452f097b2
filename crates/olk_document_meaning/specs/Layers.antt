-- A schema object without the keywords of a document: what the layer reads of it.
use Rattle.std.specs.Prelude.{Bool, true, false, not, List}
use Rattle.serde_json.specs.Data.{Data, Members, no_members, member}
use Rattle.olk_spec.specs.Names.{Name, filter_once}
use Rattle.olk_document_spec.specs.Keywords.{is_other}

-- the members that the layer reads, and those that the document does
abbrev pub others : {X : Type 0} → List (Name × X) → List (Name × X)
others ms = filter_once (λ m. is_other m.0) ms

abbrev pub owns : {X : Type 0} → List (Name × X) → List (Name × X)
owns ms = filter_once (λ m. not (is_other m.0)) ms

abbrev pub put_member : Bool → Name → Data → Members → Members
put_member true n d ms = member n d ms
put_member false n d ms = ms

abbrev pub layer_members : Members → Members
layer_members no_members = no_members
layer_members (member n d ms) = put_member (is_other n) n d (layer_members ms)
