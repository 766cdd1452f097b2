-- A validator stands for a schema.
use Rattle.std.specs.Prelude.{ℕ, Bool, List, []}
use Rattle.serde_json.specs.Data.{Data}
use Rattle.olk_spec.specs.Faults.{Fault}
use Rattle.olk_base.specs.Kit.{Kit}
use Rattle.olk_tree.specs.Questions.{of_unfinished}
use Rattle.olk_meaning.specs.Chosen.{Placed}
use Rattle.object_logic.specs.Nodes.{answers, StandsFor}
use Rattle.object_logic.specs.declared.validator.Validator.{Validator}

-- its root stands for the schema at the empty path
pub record IsValidatorOf {K R : Type 0} (o : Kit K R) (v : Validator K R) (S : Data) : Type 0 where
  pub root : StandsFor o v.root S []

-- the validators that stand in it, each with its place
abbrev pub validators_in : {K R : Type 0} → Kit K R → Validator K R → List Placed
validators_in o v = (answers o v.root).forms

-- the faults of the first step of its walk over a value that refuses
abbrev pub first_faults : {K R : Type 0} → Kit K R → Validator K R → Bool → Data → List Fault
first_faults o v u x = (answers o v.root).first u x []

-- how many of the matches that it may ask about a value its matchers leave unfinished
abbrev pub left_unfinished : {K R : Type 0} → Kit K R → Validator K R → Bool → Data → ℕ
left_unfinished o v u x = ((answers o v.root).means x).asks of_unfinished u
