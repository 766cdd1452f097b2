-- What a build counts: places, leaves, patterns that a matcher is made for, and matchers asked for a table.
use Rattle.std.specs.Prelude.{ℕ, ◌+◌, ◌*◌, cond, List, [], ◌∷◌, length, codes}
use Rattle.serde_json.specs.Data.{Data}
use Rattle.olk_spec.specs.Names.{Name}
use Rattle.olk_spec.specs.World.{World}
use Rattle.olk_spec.specs.Vocabulary.{Keyword, pattern_properties, leaf, keyword_named}
use Rattle.olk_spec.specs.Schemas.{Part, Schema, truth, keywords, no_schema, Keywords, answer_for, entries_at}
use Rattle.olk_spec.specs.Meanings.{restricts}
use Rattle.olk_spec.specs.Asks.{open_patterns}
use Rattle.olk_spec.specs.Malformed.{read_places}

pub record Cost : Type 0 where
  pub places : ℕ
  pub leaf_places : ℕ
  pub pattern_places : ℕ
  pub table_asks : ℕ

abbrev pub no_cost : Cost
no_cost = record { places = 0; leaf_places = 0; pattern_places = 0; table_asks = 0 }

infixl 60 ◌⊕◌
abbrev pub ◌⊕◌ : Cost → Cost → Cost
c ⊕ d = record {
  places = c.places + d.places;
  leaf_places = c.leaf_places + d.leaf_places;
  pattern_places = c.pattern_places + d.pattern_places;
  table_asks = c.table_asks + d.table_asks;
}

abbrev pub total_cost : {X : Type 0} → (X → Cost) → List X → Cost
total_cost f [] = no_cost
total_cost f (x ∷ xs) = f x ⊕ total_cost f xs

abbrev pub one_place : Cost
one_place = record no_cost { places = 1 }

module _ (W : World) where
  -- where there is a table, each matcher is asked for each declared name
  abbrev pub own_cost : {X : Type 0} → Keywords X → Part X → Keyword → Cost
  own_cost S p leaf = record no_cost { leaf_places = 1 }
  own_cost S p pattern_properties = record no_cost {
    pattern_places = length (open_patterns W p);
    table_asks = cond (restricts S) (length (entries_at S (codes "properties")) * length (open_patterns W p)) 0;
  }
  own_cost S p _ = no_cost

  -- its own, and that of the places that it reads
  abbrev pub keyword_cost : Keywords Cost → Name → Part Cost → Keyword → Cost
  keyword_cost S k p w = own_cost S p w ⊕ total_cost (λ r. r.0.answer) (read_places k S p w)

  -- the sum over all read places
  abbrev pub cost_step : Schema Cost → Cost
  cost_step (truth b) = one_place
  cost_step (no_schema d) = one_place
  cost_step (keywords S) = one_place ⊕ total_cost (λ m. keyword_cost S m.0 m.1 (keyword_named W m.0)) S

  unfoldable pub cost : Data → Cost
  cost = answer_for cost_step

  abbrev pub places : Data → ℕ
  places S = (cost S).places

  abbrev pub leaf_places : Data → ℕ
  leaf_places S = (cost S).leaf_places

  abbrev pub pattern_places : Data → ℕ
  pattern_places S = (cost S).pattern_places

  abbrev pub table_asks : Data → ℕ
  table_asks S = (cost S).table_asks
