-- A schema as its keywords, and recursion over schemas.
use Rattle.std.specs.Prelude.{Bool, true, false, List, [], ◌∷◌, map, is_some, decimal, option_to_list}
use Rattle.std.specs.List.{flat_map, enumerate_from}
use Rattle.serde_json.specs.Data.{Data, null, boolean, number, string, array, object, Items, no_items, item, Members, no_members, member}
use Rattle.olk_spec.specs.Names.{Name, lookup_name, filter_once}

-- a place inside a schema: what stands there, and what a recursion answers for it
pub record Sub (X : Type 0) : Type 0 where
  pub schema : Data
  pub answer : X

-- the value of a keyword: the place itself, the places in an object, those in the objects inside it, and those in an array
pub record Part (X : Type 0) : Type 0 where
  pub whole : Sub X
  pub entries : List (Name × Sub X)
  pub inner : List (Name × List (Name × Sub X))
  pub items : List (Sub X)

-- the keywords of a schema object, each with its value
abbrev pub Keywords : Type 0 → Type 0
Keywords X = List (Name × Part X)

pub data Schema (X : Type 0) : Type 0 where
  truth : Bool → Schema X
  keywords : Keywords X → Schema X
  no_schema : Data → Schema X

-- ---- recursion: `step` says what the answer for a schema is, given those for the places inside it

abbrev pub whole_entries : {X : Type 0} → List (Name × Part X) → List (Name × Sub X)
whole_entries ms = map (λ m. (m.0, m.1.whole)) ms

abbrev pub inner_entries : {X : Type 0} → List (Name × Part X) → List (Name × List (Name × Sub X))
inner_entries ms = map (λ m. (m.0, m.1.entries)) ms

abbrev pub whole_items : {X : Type 0} → List (Part X) → List (Sub X)
whole_items ps = map (λ p. p.whole) ps

module _ {X : Type 0} (step : Schema X → X) where
  abbrev pub part : Data → Schema X → List (Name × Part X) → List (Part X) → Part X
  part d schema ms ps = record {
    whole = record { schema = d; answer = step schema };
    entries = whole_entries ms;
    inner = inner_entries ms;
    items = whole_items ps;
  }

  abbrev pub object_part : Members → List (Name × Part X) → Part X
  object_part ms parts = part (object ms) (keywords parts) parts []

  abbrev mutual
    pub read : Data → Part X
    read null = part null (no_schema null) [] []
    read (boolean b) = part (boolean b) (truth b) [] []
    read (number n) = part (number n) (no_schema (number n)) [] []
    read (string s) = part (string s) (no_schema (string s)) [] []
    read (array ds) = part (array ds) (no_schema (array ds)) [] (read_items ds)
    read (object ms) = object_part ms (read_members ms)

    pub read_items : Items → List (Part X)
    read_items no_items = []
    read_items (item d ds) = read d ∷ read_items ds

    pub read_members : Members → List (Name × Part X)
    read_members no_members = []
    read_members (member n d ms) = (n, read d) ∷ read_members ms

  abbrev pub answer_for : Data → X
  answer_for d = (read d).whole.answer

-- ---- values

abbrev pub listed : Members → List (Name × Data)
listed no_members = []
listed (member n d ms) = (n, d) ∷ listed ms

abbrev pub texts_in : Items → List Name
texts_in no_items = []
texts_in (item (string s) ds) = s ∷ texts_in ds
texts_in (item d ds) = texts_in ds

abbrev pub is_object : Data → Bool
is_object (object ms) = true
is_object d = false

abbrev pub is_array : Data → Bool
is_array (array ds) = true
is_array d = false

abbrev pub is_truth : Bool → Data → Bool
is_truth true (boolean true) = true
is_truth false (boolean false) = true
is_truth b d = false

-- the members of a value, none where it is no object; the texts of an array
abbrev pub members : Data → List (Name × Data)
members (object ms) = listed ms
members d = []

abbrev pub texts : Data → List Name
texts (array ds) = texts_in ds
texts d = []

abbrev pub has : Name → Data → Bool
has n v = is_some (lookup_name n (members v))

-- the member at n, none or one
abbrev pub at : Name → Data → List Data
at n v = option_to_list (lookup_name n (members v))

-- the text that a value is, none or one
abbrev pub as_text : Data → List Name
as_text (string s) = s ∷ []
as_text d = []

-- ---- what stands at a keyword

-- each under its position
abbrev pub numbered : {X : Type 0} → List X → List (Name × X)
numbered xs = map (λ e. (decimal e.0, e.1)) (enumerate_from 0 xs)

module _ {X : Type 0} (p : Part X) where
  abbrev pub branches : List (Name × Sub X)
  branches = numbered p.items

  -- the names that an array lists
  abbrev pub names : List Name
  names = texts p.whole.schema

  -- the lists of names among the entries of an object
  abbrev pub name_lists : List (Name × List Name)
  name_lists = map (λ e. (e.0, texts e.1.schema)) (filter_once (λ e. is_array e.1.schema) p.entries)

-- the neighbour k of a keyword
module _ {X : Type 0} (S : Keywords X) (k : Name) where
  abbrev pub is_present : Bool
  is_present = is_some (lookup_name k S)

  abbrev pub parts_at : List (Part X)
  parts_at = option_to_list (lookup_name k S)

  abbrev pub entries_at : List (Name × Sub X)
  entries_at = flat_map (λ p. p.entries) parts_at

  abbrev pub names_at : List Name
  names_at = flat_map names parts_at

  abbrev pub wholes_at : List (Sub X)
  wholes_at = map (λ p. p.whole) parts_at
