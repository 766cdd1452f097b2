-- What the places inside a schema object answer: those of the layer, or of a language above it.
use Rattle.std.specs.Prelude.{◌≡◌, ℕ, Bool, false, List}
use Rattle.serde_json.specs.Data.{Data, string}
use Rattle.olk_spec.specs.Names.{Name, Path}
use Rattle.olk_spec.specs.World.{World}
use Rattle.olk_spec.specs.Faults.{Fault}
use Rattle.olk_spec.specs.Tree.{Tree}
use Rattle.olk_spec.specs.Schemas.{Schema, answer_for, is_object}
use Rattle.olk_spec.specs.Meanings.{Meaning}
use Rattle.olk_spec.specs.Meaning.{meaning_step}
use Rattle.olk_spec.specs.Costs.{Cost}
use Rattle.olk_meaning.specs.Chosen.{Placed, Standing}

-- what a schema means, refuses and costs, and which validators stand for it, given that of the places inside it
pub record Steps (W : World) : Type 0 where
  pub means : Bool → Schema Meaning → Meaning
  pub refuses : Schema (Path → List Fault) → Path → List Fault
  pub costs : Schema Cost → Cost
  pub stands : Schema Standing → Standing
  -- what is no object means what it means for the layer, and no matcher is asked about a name
  pub of_no_object : (u : Bool) (S : Data) → is_object S ≡ false → answer_for (means u) S ≡ answer_for (meaning_step W u) S
  pub of_a_name : (u : Bool) (S : Data) (n : Name) → (answer_for (means u) S).asks (string n) ≡ 0

module _ {W : World} (I : Steps W) where
  module _ (u : Bool) where
    unfoldable pub meaning : Data → Meaning
    meaning = answer_for (I.means u)

    -- does the schema accept the value
    abbrev pub accepts : Data → Data → Bool
    accepts S v = (meaning S).accepts v

    -- its faults, in one order
    abbrev pub report : Data → Data → Path → Path → List Fault
    report S v P Q = (meaning S).report v P Q

    -- how many matchers a verdict may ask
    abbrev pub asks : Data → Data → ℕ
    asks S v = (meaning S).asks v

    abbrev pub tree : Data → Data → Path → Path → Tree
    tree S v P Q = (meaning S).tree v P Q

  -- of a schema that stands at a path
  unfoldable pub malformations_at : Data → Path → List Fault
  malformations_at = answer_for I.refuses

  unfoldable pub cost : Data → Cost
  cost = answer_for I.costs

  -- what stands for it at a path: itself, and each validator before what it holds
  unfoldable pub validators : Data → Path → List Placed
  validators = answer_for I.stands
