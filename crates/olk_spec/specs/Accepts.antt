-- Which values a schema accepts.
use Rattle.std.specs.Prelude.{ℕ, Bool, true, false, not, ◌&&◌, ◌||◌, ◌==◌, List, count_by}
use Rattle.std.specs.List.{list_any, list_all}
use Rattle.serde_json.specs.Data.{Data, string}
use Rattle.olk_spec.specs.Names.{Name, filter_once, is_empty}
use Rattle.olk_spec.specs.World.{World}
use Rattle.olk_spec.specs.Vocabulary.{Keyword, additional_properties, property_names, required, dependent_required, dependencies, any_of, one_of, not_keyword, leaf, keyword_named}
use Rattle.olk_spec.specs.Schemas.{Schema, truth, keywords, no_schema, Keywords, Part, is_object, is_truth, members, has, names, name_lists}
use Rattle.olk_spec.specs.Meanings.{Meaning, holds, applied, additional}

-- the names of a list that an object lacks
abbrev pub missing : List Name → Data → List Name
missing ns v = filter_once (λ n. is_object v && not (has n v)) ns

-- the name lists whose key is a member
abbrev pub due : {X : Type 0} → Part X → Data → List (Name × List Name)
due p v = filter_once (λ e. has e.0 v) (name_lists p)

-- how many branches accept
abbrev pub accepting : Part Meaning → Data → ℕ
accepting p v = count_by (λ s. holds s v) p.items

module _ (W : World) (u : Bool) (S : Keywords Meaning) (k : Name) (p : Part Meaning) (v : Data) where
  -- what a keyword wants of a value beside what it asks of subschemas, one row for each
  abbrev pub wanted : Keyword → Bool
  wanted additional_properties = not (is_truth false p.whole.schema) || is_empty (additional S W u v)
  wanted property_names = (not (is_object p.whole.schema) || list_all (λ m. holds p.whole (string m.0)) (members v)) && (not (is_truth false p.whole.schema) || is_empty (members v))
  wanted required = is_empty (missing (names p) v)
  wanted dependent_required = list_all (λ e. is_empty (missing e.1 v)) (due p v)
  wanted dependencies = list_all (λ e. is_empty (missing e.1 v)) (due p v)
  wanted any_of = list_any (λ s. holds s v) p.items
  wanted one_of = accepting p v == 1
  wanted not_keyword = not (holds p.whole v)
  wanted leaf = is_empty (W.faults k p.whole.schema v)
  wanted _ = true

  abbrev pub keyword_accepts : Keyword → Bool
  keyword_accepts w = list_all (λ a. holds a.sub a.value) (applied W u S k p v w) && wanted w

-- a schema object accepts what each of its keywords accepts
abbrev pub accepts_step : World → Bool → Schema Meaning → Data → Bool
accepts_step W u (truth b) v = b
accepts_step W u (no_schema d) v = true
accepts_step W u (keywords S) v = list_all (λ m. keyword_accepts W u S m.0 m.1 v (keyword_named W m.0)) S
