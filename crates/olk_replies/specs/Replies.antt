-- What is told of an instance of a schema, over any leaf set and matcher.
use Rattle.std.specs.Prelude.{◌≡◌, ⊤, Bool, true, false, ◌||◌, List, [], map}
use Rattle.std.specs.List.{All}
use Rattle.serde_json.specs.Data.{Data}
use Rattle.serde_json.specs.Written.{has_float}
use Rattle.olk_spec.specs.Names.{Text}
use Rattle.olk_spec.specs.Faults.{Fault}
use Rattle.olk_spec.specs.World.{World}
use Rattle.olk_spec.specs.Meaning.{accepts, report, IsTree}
use Rattle.olk_spec.specs.Meaning as meant
use Rattle.olk_spec.specs.Tree.{Tree, errors, is_valid}
use Rattle.olk_spec.specs.Answers.{tree_data}
use Rattle.olk_errors.specs.Found.{IsOfReport, IsLikeOneOf}
use Rattle.olk_answers.specs.Evaluated.{IsPromised}
use Rattle.olk_answers.specs.Told.{verdict, told, first_data, TellsSorted}
use Rattle.olk_answers.specs.Texts.{json_text}

-- an instance of a schema, and the answer for unfinished matches
pub record Asked : Type 0 where
  pub schema : Data
  pub instance : Data
  pub unfinished : Bool

-- a number of the schema or of the instance is no whole number of 64 bits
abbrev pub has_fraction : Asked → Bool
has_fraction q = has_float q.schema || has_float q.instance

abbrev pub accepted : World → Asked → Bool
accepted W q = accepts W q.unfinished q.schema q.instance

-- one error, where the instance is refused: what is kept of a fault of some report, of which So holds
abbrev pub TellsOneBy : Bool → World → Asked → (Fault → Type 0) → Text → Type 0
TellsOneBy true W q So answer = answer ≡ json_text (verdict true)
TellsOneBy false W q So answer = (f : Fault) × IsOfReport W q.unfinished q.schema q.instance [] [] f × So f × (answer ≡ json_text (first_data (told f)))

abbrev pub TellsOne : World → Asked → (Fault → Type 0) → Text → Type 0
TellsOne W q So answer = TellsOneBy (accepted W q) W q So answer

-- one error, of the first step that refuses, which has these faults
abbrev pub TellsFirst : World → Asked → List Fault → Text → Type 0
TellsFirst W q faults answer = TellsOne W q (IsLikeOneOf faults) answer

-- one error of some report
abbrev pub TellsSome : World → Asked → Text → Type 0
TellsSome W q answer = TellsOne W q (λ f. ⊤) answer

-- every error, sorted
abbrev pub TellsErrors : World → Asked → Text → Type 0
TellsErrors W q answer = TellsSorted (accepted W q) (map told (report W q.unfinished q.schema q.instance [] [])) answer

-- what a tree of the schema over the instance shows; it is valid where the schema accepts, and the text of each error in it is promised
pub record TellsEvaluation (W : World) (q : Asked) (answer : Text) : Type 0 where
  pub tree : Tree
  pub is_tree : IsTree W q.unfinished q.schema q.instance [] [] tree
  pub verdict : is_valid tree ≡ accepted W q
  pub promised : All IsPromised (errors (meant.tree W q.unfinished q.schema q.instance [] []))
  pub is : answer ≡ json_text (tree_data tree)
