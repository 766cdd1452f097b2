-- What the entries of `dependentRequired`, `dependentSchemas` and `dependencies` ask for, over their raw data.
use Rattle.std.specs.Prelude.{Bool, not, cond, List, [], ◌∷◌}
use Rattle.std.specs.List.{list_all}
use Rattle.serde_json.specs.Data.{Data}
use Rattle.olk_spec.specs.Names.{Name, filter_once, is_empty}
use Rattle.olk_spec.specs.Schemas.{is_array, members, has, texts}
use Rattle.olk_meaning.specs.Chosen.{names_form}
use Rattle.olk_meaning.specs.Steps.{Steps}
use Rattle.olk_meaning.specs.Told.{EntryAnswers, schema_answers}
use Rattle.olk_spec.specs.{World.World, Accepts.missing, Reports.required_faults, Tree.erring}

-- the entries of d whose key is a member of v
abbrev pub due_entries : Data → Data → List (Name × Data)
due_entries d v = filter_once (λ e. has e.0 v) (members d)

-- the entries that are lists of names
abbrev pub list_entries : Data → List (Name × Data)
list_entries d = filter_once (λ e. is_array e.1) (members d)

-- the entries that are schemas
abbrev pub schema_entries : Data → List (Name × Data)
schema_entries d = filter_once (λ e. not (is_array e.1)) (members d)

-- each entry is a list
abbrev pub are_lists : Data → Bool
are_lists d = list_all (λ e. is_array e.1) (members d)

-- an entry that is a list wants each of its names, at the keyword itself
abbrev pub list_answers : EntryAnswers (Name × Data)
list_answers = record {
  verdict = λ u e v. is_empty (missing (texts e.1) v);
  asked = λ u e v. 0;
  faults = λ u e v L Q. required_faults (texts e.1) v L Q;
  shown = λ u e v L Q. erring L Q (required_faults (texts e.1) v L Q);
  placed = λ e L. (L, names_form) ∷ [];
}

-- it does so where it is a list, and else is a schema, which is asked of the whole value
abbrev pub either_answers : {W : World} → Steps W → (Data → Bool) → EntryAnswers (Name × Data)
either_answers I is_list = record {
  verdict = λ u e v. cond (is_list e.1) (list_answers.verdict u e v) ((schema_answers I).verdict u e v);
  asked = λ u e v. cond (is_list e.1) 0 ((schema_answers I).asked u e v);
  faults = λ u e v L Q. cond (is_list e.1) (list_answers.faults u e v L Q) ((schema_answers I).faults u e v L Q);
  shown = λ u e v L Q. cond (is_list e.1) (list_answers.shown u e v L Q) ((schema_answers I).shown u e v L Q);
  placed = λ e L. cond (is_list e.1) (list_answers.placed e L) ((schema_answers I).placed e L);
}

abbrev pub dependency_answers : {W : World} → Steps W → EntryAnswers (Name × Data)
dependency_answers I = either_answers I is_array
