-- The references that a document reads, and the places where it reads them.
use Rattle.std.specs.Prelude.{◌≡◌, Bool, true, cond, List, [], ◌∷◌, ◌++◌, map, codes}
use Rattle.std.specs.Borrow.{Bor}
use Rattle.std.specs.List.{flat_map}
use Rattle.serde_json.specs.Data.{Data, Members, object}
use Rattle.olk_spec.specs.Names.{Text, Name}
use Rattle.olk_spec.specs.World.{World}
use Rattle.olk_spec.specs.Vocabulary.{Keyword, properties, pattern_properties, additional_properties, property_names, dependent_schemas, dependencies, property_dependencies, all_of, any_of, one_of, not_keyword, if_keyword, then_keyword, else_keyword, keyword_named}
use Rattle.olk_spec.specs.Schemas.{members, has, is_object, as_text}
use Rattle.olk_spec.specs.Malformed.{items_of_array}
use Rattle.olk_meaning.specs.Conditions.{is_condition}
use Rattle.olk_build.specs.Building.{entries_read}
use Rattle.olk_build.specs.declared.shape.ReadPlaces.{ReadPlaces}
use Rattle.olk_build.specs.declared.shape.ReadPlaces.TheVariants.{Nothing, Itself, Entries, SchemaEntries, InnerEntries, Branches}
use Rattle.olk_document_spec.specs.Keywords.{Document_keyword, prefix_items, items, contains, reference, document_keyword, is_other, beneath}
use Rattle.olk_document_spec.specs.Malformed.{references_read}

-- ---- the places that a member reads: it has the name k and the value d, in the schema object with the members ms

abbrev pub itself_where : Bool → ReadPlaces
itself_where b = cond b Itself Nothing

abbrev pub own_reads : Document_keyword → ReadPlaces
own_reads prefix_items = Branches
own_reads items = Itself
own_reads contains = Itself
own_reads w = Nothing

module _ (ms : Members) (d : Data) where
  abbrev pub layer_reads : Keyword → ReadPlaces
  layer_reads properties = Entries
  layer_reads pattern_properties = Entries
  layer_reads additional_properties = itself_where (is_object d)
  layer_reads property_names = itself_where (is_object d)
  layer_reads dependent_schemas = Entries
  layer_reads dependencies = SchemaEntries
  layer_reads property_dependencies = InnerEntries
  layer_reads all_of = Branches
  layer_reads any_of = Branches
  layer_reads one_of = Branches
  layer_reads not_keyword = Itself
  layer_reads if_keyword = itself_where (is_condition ms)
  layer_reads then_keyword = itself_where (has (codes "if") (object ms))
  layer_reads else_keyword = itself_where (has (codes "if") (object ms))
  layer_reads w = Nothing

  abbrev pub member_reads : World → Name → ReadPlaces
  member_reads W k = cond (is_other k) (layer_reads (keyword_named (beneath W) k)) (own_reads (document_keyword k))

-- ---- what stands at the places that are read in a value

abbrev pub schemas_of : List (Name × Data) → List Data
schemas_of es = map (λ e. e.1) es

abbrev pub inner_schemas : List (Name × Data) → List Data
inner_schemas es = flat_map (λ e. schemas_of (members e.1)) es

abbrev pub schemas_read : ReadPlaces → Data → List Data
schemas_read Nothing d = []
schemas_read Itself d = d ∷ []
schemas_read Entries d = schemas_of (members d)
schemas_read SchemaEntries d = schemas_of (entries_read true (members d))
schemas_read InnerEntries d = inner_schemas (members d)
schemas_read Branches d = items_of_array d

-- ---- the references there

abbrev pub text_of_reference : Document_keyword → Data → List Text
text_of_reference reference d = as_text d
text_of_reference w d = []

module _ (W : World) where
  abbrev pub references_in : List Data → List Text
  references_in ds = flat_map (references_read W) ds

  abbrev pub references_of_member : Members → Name × Data → List Text
  references_of_member ms m = text_of_reference (document_keyword m.0) m.1 ++ references_in (schemas_read (member_reads ms m.1 W m.0) m.1)

  abbrev pub references_of_members : Members → List (Name × Data) → List Text
  references_of_members ms es = flat_map (references_of_member ms) es

-- ---- lists of texts that grow

abbrev pub as_texts : List (Bor Text) → List Text
as_texts ts = map (λ t. t.now) ts

-- the new list has, behind the texts of the old one, these
abbrev pub AppendsTexts : List (Bor Text) → List (Bor Text) → (World → List Text) → Type 0
AppendsTexts old new ts = (W : World) → as_texts new ≡ as_texts old ++ ts W
