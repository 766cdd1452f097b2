-- Which schemas `propertyDependencies` chooses for a value, over its raw data.
use Rattle.std.specs.Prelude.{List, [], ◌∷◌, map}
use Rattle.std.specs.List.{flat_map}
use Rattle.serde_json.specs.Data.{Data}
use Rattle.olk_spec.specs.Schemas.{at, as_text}
use Rattle.olk_meaning.specs.Steps.{Steps}
use Rattle.olk_meaning.specs.Told.{EntryAnswers, placed_answers}
use Rattle.olk_spec.specs.{Names.Name, World.World}

-- the schema that stands in d at the text that w is, under that text: none or one
abbrev pub chosen_by : Data → Data → List (Name × Data)
chosen_by d w = flat_map (λ t. map (λ s. (t, s)) (at t d)) (as_text w)

-- that of an entry, by the member of v at its key
abbrev pub chosen : Data → Name × Data → List (Name × Data)
chosen v e = flat_map (chosen_by e.1) (at e.0 v)

-- the schemas that are chosen, each under its key
abbrev pub choices : List (Name × Data) → Data → List (Name × Name × Data)
choices es v = flat_map (λ e. map (λ c. (e.0, c.0, c.1)) (chosen v e)) es

abbrev pub choice_answers : {W : World} → Steps W → EntryAnswers (Name × Name × Data)
choice_answers I = placed_answers I (λ c. c.2) (λ c. c.0 ∷ c.1 ∷ [])
