-- The members whose names patterns match.
use Rattle.std.specs.Prelude.{Bool, List}
use Rattle.serde_json.specs.Data.{Data}
use Rattle.olk_spec.specs.Names.{Name, filter_once}
use Rattle.olk_spec.specs.World.{Says, reads_as}
use Rattle.olk_spec.specs.Schemas.{members}
use Rattle.olk_base.specs.Compiled.{pattern_answers, pattern_costs}
use Rattle.olk_base.specs.declared.pattern.CompiledPattern.{CompiledPattern}
use Rattle.olk_tree.specs.Questions.{Question, said_to}

module _ {R : Type 0} (answers : R → Name → Says) where
  -- does a pattern match a name
  abbrev pub is_match : Bool → CompiledPattern R → Name → Bool
  is_match u p n = reads_as u (pattern_answers answers p n)

  -- the members whose names a pattern matches
  abbrev pub matched : Bool → CompiledPattern R → Data → List (Name × Data)
  matched u p v = filter_once (λ x. is_match u p x.0) (members v)

  -- the patterns that match a name, each with what stands at it
  abbrev pub matching : {N : Type 0} → Bool → List (CompiledPattern R × N) → Name → List (CompiledPattern R × N)
  matching u es n = filter_once (λ e. is_match u e.0 n) es

  -- the same as a question
  abbrev pub match_question : (R → Bool) → CompiledPattern R → Name → Question
  match_question costs p n = said_to (pattern_costs costs p) (pattern_answers answers p n)
