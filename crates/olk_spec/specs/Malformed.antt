-- What a schema reads, and what makes it malformed.
use Rattle.std.specs.Prelude.{Bool, true, false, cond, not, ◌||◌, List, [], ◌∷◌, ◌++◌, map, codes}
use Rattle.std.specs.List.{flat_map}
use Rattle.serde_json.specs.Data.{Data, string, array, Items, no_items, item}
use Rattle.olk_spec.specs.Names.{Name, Path, ◌//◌, down, is_among, filter_once, put_if}
use Rattle.olk_spec.specs.World.{World}
use Rattle.olk_spec.specs.Vocabulary.{Keyword, properties, pattern_properties, additional_properties, property_names, required, dependent_required, dependent_schemas, dependencies, property_dependencies, all_of, any_of, one_of, not_keyword, if_keyword, then_keyword, else_keyword, unsupported, leaf, keyword_named}
use Rattle.olk_spec.specs.Schemas.{Sub, Part, Schema, truth, keywords, no_schema, Keywords, answer_for, is_object, is_array, is_truth, texts, is_present, branches}
use Rattle.olk_spec.specs.Meanings.{is_conditional}
use Rattle.olk_spec.specs.Asks.{open_patterns}
use Rattle.olk_spec.specs.Faults.{Fault, fault, Kind, SingleType, MultipleTypes, UniqueItems, Regex, Unsupported, LeafRefused, array_type, object_type, string_type}

-- ---- the places that a keyword reads, each with its path below the schema object

module _ {X : Type 0} (k : Name) where
  abbrev pub itself : Sub X → List (Sub X × List Name)
  itself s = (s, k ∷ []) ∷ []

  abbrev pub each : List (Name × Sub X) → List (Sub X × List Name)
  each es = map (λ e. (e.1, k ∷ e.0 ∷ [])) es

  abbrev pub places_where : Bool → List (Sub X × List Name) → List (Sub X × List Name)
  places_where b ps = cond b ps []

  -- `if` is read only beside `then` or `else`, and these only beside `if`
  abbrev pub read_places : Keywords X → Part X → Keyword → List (Sub X × List Name)
  read_places S p properties = each p.entries
  read_places S p pattern_properties = each p.entries
  read_places S p additional_properties = places_where (is_object p.whole.schema) (itself p.whole)
  read_places S p property_names = places_where (is_object p.whole.schema) (itself p.whole)
  read_places S p dependent_schemas = each p.entries
  read_places S p dependencies = each (filter_once (λ e. not (is_array e.1.schema)) p.entries)
  read_places S p property_dependencies = flat_map (λ e. map (λ i. (i.1, k ∷ e.0 ∷ i.0 ∷ [])) e.1) p.inner
  read_places S p all_of = each (branches p)
  read_places S p any_of = each (branches p)
  read_places S p one_of = each (branches p)
  read_places S p not_keyword = itself p.whole
  read_places S p if_keyword = places_where (is_conditional S) (itself p.whole)
  read_places S p then_keyword = places_where (is_present S (codes "if")) (itself p.whole)
  read_places S p else_keyword = places_where (is_present S (codes "if")) (itself p.whole)
  read_places S p _ = []

-- ---- what makes an object malformed

abbrev pub refusal : Kind → Data → Path → Fault
refusal k d P = fault k d [] P

abbrev pub is_text : Data → Bool
is_text (string s) = true
is_text d = false

abbrev pub first_of_list : {X : Type 0} → List X → List X
first_of_list [] = []
first_of_list (x ∷ xs) = x ∷ []

abbrev pub items_list : Items → List Data
items_list no_items = []
items_list (item d ds) = d ∷ items_list ds

abbrev pub items_of_array : Data → List Data
items_of_array (array ds) = items_list ds
items_of_array d = []

-- the first item that is no text
abbrev pub not_a_text : Data → Path → List Fault
not_a_text d P = map (λ i. refusal (SingleType string_type) i P) (first_of_list (filter_once (λ i. not (is_text i)) (items_of_array d)))

abbrev pub has_repeat : List Name → Bool
has_repeat [] = false
has_repeat (n ∷ ns) = is_among n ns || has_repeat ns

-- the first of these that refuses
abbrev pub or_else_list : {X : Type 0} → List X → List X → List X
or_else_list [] ys = ys
or_else_list (x ∷ xs) ys = x ∷ xs

abbrev pub unless_kind : Bool → Kind → Data → Path → List Fault
unless_kind ok k d P = put_if (not ok) (refusal k d P) []

abbrev pub unless_object : Data → Path → List Fault
unless_object d P = unless_kind (is_object d) (SingleType object_type) d P

abbrev pub unless_array : Data → Path → List Fault
unless_array d P = unless_kind (is_array d) (SingleType array_type) d P

-- an entry of `dependentRequired`, at the keyword's path P
abbrev pub name_list_refusals : Name → Data → Path → List Fault
name_list_refusals key d P =
    or_else_list (unless_array d (P // key))
    (or_else_list (put_if (has_repeat (texts d)) (refusal UniqueItems d (P // key)) [])
    (not_a_text d P))

module _ (W : World) where
  -- what is wrong with a keyword itself, one row for each; d is its value and P its path
  module _ {X : Type 0} (k : Name) (p : Part X) (P : Path) where
    abbrev pub own_refusals : Keyword → List Fault
    own_refusals properties = unless_object p.whole.schema P
    own_refusals pattern_properties = unless_object p.whole.schema P ++ map (λ t. refusal Regex (string t) (P // t)) (filter_once (λ t. not (W.builds t)) (open_patterns W p))
    own_refusals additional_properties = unless_kind (is_object p.whole.schema || is_truth true p.whole.schema || is_truth false p.whole.schema) MultipleTypes p.whole.schema P
    own_refusals required = unless_array p.whole.schema P ++ not_a_text p.whole.schema P
    own_refusals dependent_required = unless_object p.whole.schema P ++ flat_map (λ e. name_list_refusals e.0 e.1.schema P) p.entries
    own_refusals dependent_schemas = unless_object p.whole.schema P
    own_refusals dependencies = unless_object p.whole.schema P ++ flat_map (λ e. not_a_text e.1.schema P) p.entries
    own_refusals property_dependencies = unless_object p.whole.schema P ++ flat_map (λ e. unless_object e.1.schema (P // e.0)) p.entries
    own_refusals all_of = unless_array p.whole.schema P
    own_refusals any_of = unless_array p.whole.schema P
    own_refusals one_of = unless_array p.whole.schema P
    own_refusals unsupported = refusal (Unsupported k) p.whole.schema P ∷ []
    own_refusals leaf = unless_kind (W.fits k p.whole.schema) (LeafRefused k) p.whole.schema P
    own_refusals _ = []

  -- at the keyword itself, and at the places that it reads; P is the path of the schema object
  abbrev pub keyword_malformations : Keywords (Path → List Fault) → Name → Part (Path → List Fault) → Path → Keyword → List Fault
  keyword_malformations S k p P w = own_refusals k p (P // k) w ++ flat_map (λ r. r.0.answer (down P r.1)) (read_places k S p w)

  abbrev pub malformations_step : Schema (Path → List Fault) → Path → List Fault
  malformations_step (truth b) P = []
  malformations_step (no_schema d) P = refusal MultipleTypes d P ∷ []
  malformations_step (keywords S) P = flat_map (λ m. keyword_malformations S m.0 m.1 P (keyword_named W m.0)) S

  -- of a schema that stands at a path
  unfoldable pub malformations_at : Data → Path → List Fault
  malformations_at = answer_for malformations_step

  abbrev pub malformations : Data → List Fault
  malformations S = malformations_at S []
