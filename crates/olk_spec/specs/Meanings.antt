-- What a schema says of values, and what each keyword of a schema object asks of subschemas.
use Rattle.std.specs.Prelude.{ℕ, Bool, not, ◌&&◌, ◌||◌, List, [], ◌∷◌, map, codes, option_to_list, cond, is_none, false}
use Rattle.std.specs.List.{flat_map, list_any}
use Rattle.std.specs.Option.{option_map_or}
use Rattle.serde_json.specs.Data.{Data}
use Rattle.olk_spec.specs.Names.{Text, Name, Path, is_among, filter_once, is_empty, lookup_name, put_if}
use Rattle.olk_spec.specs.World.{World, Says, matched, unmatched, reads_as}
use Rattle.olk_spec.specs.Literals.{literal, passes, Literal}
use Rattle.olk_spec.specs.Vocabulary.{Keyword, properties, pattern_properties, additional_properties, dependent_schemas, dependencies, property_dependencies, all_of, then_keyword, else_keyword}
use Rattle.olk_spec.specs.Faults.{Fault}
use Rattle.olk_spec.specs.Tree.{Tree}
use Rattle.olk_spec.specs.Schemas.{Sub, Part, Keywords, is_object, is_array, is_truth, members, has, at, as_text, branches, is_present, entries_at, wholes_at}

-- the verdict, the faults and the tree of a value (at a schema path and an instance path), and how many matchers a verdict may ask
pub record Meaning : Type 0 where
  pub accepts : Data → Bool
  pub report : Data → Path → Path → List Fault
  pub tree : Data → Path → Path → Tree
  pub asks : Data → ℕ

abbrev pub Subschema : Type 0
Subschema = Sub Meaning

-- does the subschema accept the value
abbrev pub holds : Subschema → Data → Bool
holds s v = s.answer.accepts v

-- ---- patterns

module _ (W : World) where
  -- what a pattern says of a name: its test, where it stands for one, and else the matcher
  abbrev pub literal_says : Literal → Name → Says
  literal_says l n = cond (passes l n) matched unmatched

  abbrev pub pattern_says : Text → Name → Says
  pattern_says p n = option_map_or (λ l. literal_says l n) (literal p) (W.says p n)

  -- a pattern that the matcher is asked for
  abbrev pub is_open : Text → Bool
  is_open p = is_none (literal p)

  -- does a pattern match a name
  abbrev pub matches : Bool → Text → Name → Bool
  matches u p n = reads_as u (pattern_says p n)

-- ---- the neighbours of a keyword

module _ {X : Type 0} (S : Keywords X) where
  abbrev pub is_declared : Name → Bool
  is_declared n = is_among n (map (λ e. e.0) (entries_at S (codes "properties")))

  -- `additionalProperties` is false or an object
  abbrev pub restricts : Bool
  restricts = list_any (λ s. is_truth false s.schema || is_object s.schema) (wholes_at S (codes "additionalProperties"))

  -- `if` stands beside `then` or `else`
  abbrev pub is_conditional : Bool
  is_conditional = is_present S (codes "if") && (is_present S (codes "then") || is_present S (codes "else"))

  module _ (W : World) (u : Bool) where
    -- the entries of `patternProperties` whose pattern matches
    abbrev pub matching : Name → List (Name × Sub X)
    matching n = filter_once (λ e. matches W u e.0 n) (entries_at S (codes "patternProperties"))

    -- the members that `properties` does not hold and no pattern matches
    abbrev pub additional : Data → List (Name × Data)
    additional v = filter_once (λ m. not (is_declared m.0) && is_empty (matching m.0)) (members v)

-- `if` is there and accepts; it is there and does not accept
module _ (S : Keywords Meaning) (v : Data) where
  abbrev pub if_accepts : Bool
  if_accepts = list_any (λ s. holds s v) (wholes_at S (codes "if"))

  abbrev pub if_refuses : Bool
  if_refuses = list_any (λ s. not (holds s v)) (wholes_at S (codes "if"))

-- ---- what a keyword asks of subschemas

-- a subschema that is asked about a value: where the subschema stands below the schema object, and the value below the instance
pub record Asked : Type 0 where
  pub sub : Subschema
  pub value : Data
  pub in_schema : List Name
  pub in_instance : List Name

abbrev pub asked : Subschema → Data → List Name → List Name → Asked
asked s v p q = record { sub = s; value = v; in_schema = p; in_instance = q }

-- entries that are asked of the value itself
abbrev pub asked_whole : Name → Data → List (Name × Subschema) → List Asked
asked_whole k v es = map (λ e. asked e.1 v (k ∷ e.0 ∷ []) []) es

module _ (W : World) (u : Bool) (S : Keywords Meaning) (k : Name) (p : Part Meaning) (v : Data) where
  -- one row for each keyword; k is its name and p its value
  abbrev pub applied : Keyword → List Asked
  applied properties = flat_map (λ e. map (λ w. asked e.1 w (k ∷ e.0 ∷ []) (e.0 ∷ [])) (at e.0 v)) p.entries
  applied pattern_properties = flat_map (λ e. map (λ m. asked e.1 m.1 (k ∷ e.0 ∷ []) (m.0 ∷ [])) (filter_once (λ m. matches W u e.0 m.0) (members v))) p.entries
  applied additional_properties = flat_map (λ m. put_if (is_object p.whole.schema) (asked p.whole m.1 (k ∷ []) (m.0 ∷ [])) []) (additional S W u v)
  applied dependent_schemas = asked_whole k v (filter_once (λ e. has e.0 v) p.entries)
  applied dependencies = asked_whole k v (filter_once (λ e. has e.0 v && not (is_array e.1.schema)) p.entries)
  applied property_dependencies = flat_map (λ e. flat_map (λ t. map (λ s. asked s v (k ∷ e.0 ∷ t ∷ []) []) (option_to_list (lookup_name t e.1))) (flat_map as_text (at e.0 v))) p.inner
  applied all_of = asked_whole k v (branches p)
  applied then_keyword = put_if (if_accepts S v) (asked p.whole v (k ∷ []) []) []
  applied else_keyword = put_if (if_refuses S v) (asked p.whole v (k ∷ []) []) []
  applied _ = []
