-- How often references can be followed, wherever they stand: also where no keyword reads them.
use Rattle.std.specs.Prelude.{ℕ, zero, suc, Bool, not, List, [], ◌++◌, option_to_list}
use Rattle.std.specs.List.{list_any}
use Rattle.serde_json.specs.Data.{Data, array, object, Items, no_items, item, Members, no_members, member}
use Rattle.olk_spec.specs.Names.{Text, is_empty}
use Rattle.olk_spec.specs.Schemas.{as_text}
use Rattle.olk_document_spec.specs.Documents.{place_named, reference_limit}
use Rattle.olk_document_spec.specs.Keywords.{Document_keyword, reference, document_keyword}

-- the text of a reference; d is the value of a member
abbrev pub referring_text : Document_keyword → Data → List Text
referring_text reference d = as_text d
referring_text w d = []

-- those of all references
abbrev mutual
  pub referring_texts : Data → List Text
  referring_texts (array ds) = referring_items ds
  referring_texts (object ms) = referring_members ms
  referring_texts d = []

  pub referring_items : Items → List Text
  referring_items no_items = []
  referring_items (item d ds) = referring_texts d ++ referring_items ds

  pub referring_members : Members → List Text
  referring_members no_members = []
  referring_members (member n d ms) = referring_text (document_keyword n) d ++ (referring_texts d ++ referring_members ms)

module _ (D : Data) where
  -- followed so many times, references still lead to another one
  unfoldable pub goes_on : ℕ → Data → Bool
  goes_on zero d = not (is_empty (referring_texts d))
  goes_on (suc n) d = list_any (λ t. list_any (goes_on n) (option_to_list (place_named D t))) (referring_texts d)

  -- followed as often as they are, they still lead to another one, as those do that run in a circle
  abbrev pub runs_on : Bool
  runs_on = goes_on reference_limit D
