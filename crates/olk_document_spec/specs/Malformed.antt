-- What a document reads, and what makes it malformed.
use Rattle.std.specs.Prelude.{ℕ, zero, suc, cond, List, [], ◌∷◌, ◌++◌, drop, Option, Some, None, is_some, option_map}
use Rattle.std.specs.List.{flat_map}
use Rattle.serde_json.specs.Data.{Data}
use Rattle.olk_spec.specs.Names.{Text, Name, Path, ◌//◌, down}
use Rattle.olk_spec.specs.World.{World}
use Rattle.olk_spec.specs.Vocabulary.{keyword_named}
use Rattle.olk_spec.specs.Faults.{Fault, SingleType, MultipleTypes, Unsupported, LeafRefused, string_type}
use Rattle.olk_spec.specs.Schemas.{Sub, Part, Schema, truth, keywords, no_schema, Keywords, answer_for, branches, as_text}
use Rattle.olk_spec.specs.Malformed.{itself, each, read_places, refusal, is_text, unless_kind, unless_array, keyword_malformations}
use Rattle.olk_document_spec.specs.Keywords.{Document_keyword, prefix_items, items, contains, reference, bound, document_keyword, is_other, beneath}
use Rattle.olk_numbers.specs.Numbers.{natural}
use Rattle.olk_document_spec.specs.Documents.{place_named, reference_limit}

-- the places that a keyword reads, each with its path below the schema object
module _ {X : Type 0} (k : Name) (p : Part X) where
  abbrev pub document_places : Document_keyword → List (Sub X × List Name)
  document_places prefix_items = each k (branches p)
  document_places items = itself k p.whole
  document_places contains = itself k p.whole
  document_places w = []

  -- the text of a reference
  abbrev pub reference_texts : Document_keyword → List Text
  reference_texts reference = as_text p.whole.schema
  reference_texts w = []

module _ (W : World) where
  -- the references that are read
  abbrev pub references_step : Schema (List Text) → List Text
  references_step (truth b) = []
  references_step (no_schema d) = []
  references_step (keywords S) = flat_map (λ m. reference_texts m.0 m.1 (document_keyword m.0)
      ++ flat_map (λ r. r.0.answer) (read_places m.0 S m.1 (keyword_named (beneath W) m.0) ++ document_places m.0 m.1 (document_keyword m.0))) S

  unfoldable pub references_read : Data → List Text
  references_read = answer_for references_step

-- what is wrong with a reference k of the value d at P: what is wrong at the place to which it leads, unless it can't be followed
abbrev pub reference_refusals : Name → Data → Path → Option (List Fault) → List Fault
reference_refusals k d P None = refusal (Unsupported k) d P ∷ []
reference_refusals k d P (Some fs) = fs

-- M: what is wrong at the place that a text names, unless the text can't be followed
module _ (M : Text → Option (List Fault)) where
  -- what is wrong with a keyword itself; d is its value and P its path
  abbrev pub document_refusals : Name → Data → Path → Document_keyword → List Fault
  document_refusals k d P prefix_items = unless_array d P
  document_refusals k d P bound = unless_kind (is_some (natural d)) (LeafRefused k) d P
  document_refusals k d P reference = unless_kind (is_text d) (SingleType string_type) d P ++ flat_map (λ t. reference_refusals k d P (M t)) (as_text d)
  document_refusals k d P w = []

  abbrev pub document_malformed : Name → Part (Path → List Fault) → Path → Document_keyword → List Fault
  document_malformed k p P w = document_refusals k p.whole.schema (P // k) w ++ flat_map (λ r. r.0.answer (down P r.1)) (document_places k p w)

module _ (W : World) (M : Text → Option (List Fault)) where
  -- a keyword of the layer, or one of the document
  abbrev pub member_malformed : Keywords (Path → List Fault) → Name → Part (Path → List Fault) → Path → List Fault
  member_malformed S k p P = cond (is_other k) (keyword_malformations (beneath W) S k p P (keyword_named (beneath W) k)) (document_malformed M k p P (document_keyword k))

  abbrev pub document_malformations_step : Schema (Path → List Fault) → Path → List Fault
  document_malformations_step (truth b) P = []
  document_malformations_step (no_schema d) P = refusal MultipleTypes d P ∷ []
  document_malformations_step (keywords S) P = flat_map (λ m. member_malformed S m.0 m.1 P) S

  unfoldable pub malformations_under : Data → Path → List Fault
  malformations_under = answer_for document_malformations_step

module _ (W : World) (D : Data) where
  -- those of the place that a text names, where references are followed so many times
  unfoldable pub malformed_targets : ℕ → Text → Option (List Fault)
  malformed_targets zero t = None
  malformed_targets (suc n) t = option_map (λ d. malformations_under W (malformed_targets n) d (drop 1 t)) (place_named D t)

  -- those of the document, and of each place to which it refers
  abbrev pub document_malformations : List Fault
  document_malformations = malformations_under W (malformed_targets reference_limit) D []
