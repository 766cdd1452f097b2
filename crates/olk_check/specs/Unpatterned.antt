-- Members that declared names and the rest speak of, and no patterns.
use Rattle.std.specs.Prelude.{⊤, ℕ, true, false, List, [], Option, Some, None}
use denote.Ref.{Bor}
use Rattle.serde_json.specs.Data.{Data}
use Rattle.serde_json.specs.View.{view}
use Rattle.serde_json.specs.declared.value.Value.{Value}
use Rattle.olk_spec.specs.Names.{Name, lookup_name}
use Rattle.olk_spec.specs.World.{Says, unmatched}
use Rattle.olk_spec.specs.Schemas.{members}
use Rattle.olk_tree.specs.Questions.{Question, always, every}
use Rattle.olk_tree.specs.Additional.{Sides, additional_means, known_by, rest_means, mapped_places}
use Rattle.olk_tree.specs.declared.properties_map.PropertiesMap.{PropertiesMap}

-- these declared names, no patterns, and this for the rest
abbrev pub unpatterned : {R N : Type 0} → PropertiesMap N → Option N → (ℕ → ℕ → Says) → Sides R N
unpatterned m rest known = record { declared = mapped_places (Some m); patterns = []; known = known; rest = rest }

-- no names, no patterns, and this for the rest
abbrev pub alone : {R N : Type 0} → N → (ℕ → ℕ → Says) → Sides R N
alone rest known = record { declared = []; patterns = []; known = known; rest = Some rest }

module _ {N : Type 0} (m : N → Data → Question) where
  -- a member is to be accepted by what is declared at its name, and any other by the rest; with nothing it is not expected
  abbrev pub declared_or_rest : Option N → Data → Option N → Question
  declared_or_rest rest x None = rest_means m x rest
  declared_or_rest rest x (Some n) = m n x

  abbrev pub names_mean : List (Name × N) → Option N → Data → Question
  names_mean es rest v = every (λ x. declared_or_rest rest x.1 (lookup_name x.0 es)) (members v)

  -- each member is to be accepted by the same
  abbrev pub values_mean : N → Data → Question
  values_mean n v = every (λ x. m n x.1) (members v)

  -- what is held back
  abbrev pub held_means : Option (Bor N × Bor Value) → Question
  held_means None = always true
  held_means (Some h) = m h.0.now (view h.1.now)

  -- the meaning of the validators without patterns
  abbrev pub declared_mean : PropertiesMap N → Option N → Data → Question
  declared_mean p rest v = additional_means {R = ⊤} (λ r n. unmatched) (λ r. false) m (unpatterned p rest (known_by None)) v

  abbrev pub alone_mean : N → Data → Question
  alone_mean n v = additional_means {R = ⊤} (λ r n. unmatched) (λ r. false) m (alone n (known_by None)) v
