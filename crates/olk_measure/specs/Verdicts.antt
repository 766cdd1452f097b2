-- What an ask answers.
use Rattle.std.specs.Prelude.{◌≡◌, Bool, false}
use Rattle.serde_json.specs.Data.{Data}
use Rattle.olk_spec.specs.World.{World}
use Rattle.olk_spec.specs.Meaning.{accepts}
use Rattle.olk_base.specs.Kit.{Kit}
use Rattle.object_logic.specs.Validators.{IsValidatorOf}
use Rattle.object_logic.specs.declared.validator.Validator.{Validator}

-- the verdict of each schema that the validator stands for, where unfinished matches count as none
abbrev pub IsVerdictOf : {K R : Type 0} → Kit K R → World → Validator K R → Data → Bool → Type 0
IsVerdictOf o W v d valid = (S : Data) → IsValidatorOf o v S → valid ≡ accepts W false S d
