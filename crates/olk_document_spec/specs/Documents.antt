-- What a document means: its places are those that a `$ref` in it names, and a reference may lead to another one.
use Rattle.std.specs.Prelude.{ℕ, zero, suc, ◌==◌, Bool, false, not, ◌&&◌, ◌||◌, [], ◌∷◌, map, cond, drop, Option, None, option_to_list}
use Rattle.std.specs.List.{list_any}
use Rattle.serde_json.specs.Data.{Data}
use Rattle.serde_json.specs.Find.{pointer}
use Rattle.olk_spec.specs.Names.{Text}
use Rattle.olk_spec.specs.World.{World}
use Rattle.olk_spec.specs.Meanings.{Meaning}
use Rattle.olk_document_spec.specs.Keywords.{Targets}
use Rattle.olk_document_spec.specs.Steps.{meaning_under}

-- a percent sign would stand for another character (RFC 3986, 2.1)
abbrev pub has_percent : Text → Bool
has_percent t = list_any (λ b. b == 37) t

-- behind `~` stands `0` or `1` (RFC 6901, 3)
abbrev pub closes_tilde : Text → Bool
closes_tilde [] = false
closes_tilde (b ∷ t) = b == 48 || b == 49

abbrev pub has_open_tilde : Text → Bool
has_open_tilde [] = false
has_open_tilde (b ∷ t) = (b == 126 && not (closes_tilde t)) || has_open_tilde t

-- the place that a text names: `#` and its JSON pointer
abbrev pub place_named : Data → Text → Option Data
place_named D [] = None
place_named D (b ∷ t) = cond (b == 35 && not (has_percent t || has_open_tilde t)) (pointer t D) None

-- so many references are followed, one behind another
abbrev pub reference_limit : ℕ
reference_limit = 16

module _ (W : World) (u : Bool) (D : Data) where
  -- the places that texts name, where references are followed so many times
  unfoldable pub targets : ℕ → Targets
  targets zero t = []
  targets (suc n) t = map (λ d. record { place = drop 1 t; meaning = meaning_under W u (targets n) d }) (option_to_list (place_named D t))

  abbrev pub document_meaning : Meaning
  document_meaning = meaning_under W u (targets reference_limit) D
