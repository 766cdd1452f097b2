-- What the places inside a schema object answer for the layer itself.
use Rattle.std.proofs.Common.{◌≡◌, ℕ, ◌+◌, Bool, true, false, cond, List, [], ◌∷◌, sum_by, refl, ◌∙◌, ap, arith}
use Rattle.std.proofs.lemmas.List.Sums.{sum_by-cons}
use Rattle.serde_json.specs.Data.{Data, string}
use Rattle.olk_spec.specs.Names.{Name, Path}
use Rattle.olk_spec.specs.World.{World}
use Rattle.olk_spec.specs.Vocabulary.{Keyword, pattern_properties, any_of, one_of, not_keyword, if_keyword, keyword_named}
use Rattle.olk_spec.specs.Schemas.{Schema, members, is_object, keywords, Keywords, Part, answer_for}
use Rattle.olk_spec.specs.Meanings.{applied, Meaning}
use Rattle.olk_spec.specs.Meaning.{meaning_step}
use Rattle.olk_spec.specs.Malformed.{malformations_step, malformations_at as own_malformations}
use Rattle.olk_spec.specs.Costs.{cost_step, cost as own_cost}
use Rattle.olk_spec.specs.Asks.{own_asks, keyword_asks}
use Rattle.olk_spec.proofs.Each.{Each, Each-implies}
use Rattle.olk_spec.proofs.Applied.{GoodAsked, applied_good}
use Rattle.olk_spec.proofs.Induction.{good_answer, GoodSchema, GoodPart}
use Rattle.olk_spec.proofs.Passing.{no_members}
use Rattle.olk_meaning.specs.Chosen.{standing_step}
use Rattle.olk_meaning.specs.Steps.{Steps, malformations_at, cost}
use Rattle.olk_meaning.proofs.Rows.{Rows}

-- ---- no matcher is asked about a value that is no object, such as a name

pub nothing_summed : {A : Type 0} (f : A → ℕ) (xs : List A) → Each (λ x. f x ≡ 0) xs → sum_by f xs ≡ 0
nothing_summed f [] h = refl
nothing_summed f (x ∷ xs) h = sum_by-cons f x xs ∙ (λ i. h.0 i + nothing_summed f xs h.1 i)

abbrev IsNoObject : Data → Type 0
IsNoObject v = is_object v ≡ false

-- it asks nothing about such values
abbrev AsksNothing : Data → Meaning → Type 0
AsksNothing d m = (v : Data) → IsNoObject v → m.asks v ≡ 0

module _ (W : World) (u : Bool) (v : Data) (none : IsNoObject v) where
  module _ (S : Keywords Meaning) (k : Name) (p : Part Meaning) (good : GoodPart AsksNothing p) where
    applied_nothing : (w : Keyword) → sum_by (λ a. a.sub.answer.asks a.value) (applied W u S k p v w) ≡ 0
    applied_nothing w = nothing_summed _ (applied W u S k p v w) (Each-implies (GoodAsked AsksNothing IsNoObject) _ (λ a g. g.0 a.value g.1) _
        (applied_good AsksNothing IsNoObject W u S k p good v none (fines (members v) (no_members v none)) w))
      where
        fines : (xs : Rows) → xs ≡ [] → Each (λ m. IsNoObject m.1) xs
        fines [] e = tt
        fines (x ∷ xs) e = absurd (grind (arith, e))

    items_nothing : sum_by (λ s. s.answer.asks v) p.items ≡ 0
    items_nothing = nothing_summed _ p.items (Each-implies _ _ (λ s g. g v none) p.items good.3)

    where_nothing : (b : Bool) → cond b (p.whole.answer.asks v) 0 ≡ 0
    where_nothing true = good.0 v none
    where_nothing false = refl

    own_nothing : (w : Keyword) → own_asks W u S k p v w ≡ 0
    own_nothing pattern_properties = ap (sum_by _) (no_members v none)
    own_nothing any_of = items_nothing
    own_nothing one_of = items_nothing
    own_nothing not_keyword = good.0 v none
    own_nothing if_keyword = where_nothing _
    own_nothing _ = refl

  keywords_nothing : (T S : Keywords Meaning) → Each (λ m. GoodPart AsksNothing m.1) S → Each (λ m. keyword_asks W u T m.0 m.1 v (keyword_named W m.0) ≡ 0) S
  keywords_nothing T S = Each-implies _ _
      (λ m g. (λ i. applied_nothing T m.0 m.1 g (keyword_named W m.0) i + own_nothing T m.0 m.1 g (keyword_named W m.0) i)) S

module _ (W : World) (u : Bool) where
  step_asks_nothing : (S : Schema Meaning) → GoodSchema AsksNothing S → (v : Data) → IsNoObject v → (meaning_step W u S).asks v ≡ 0
  step_asks_nothing (keywords S) g v none = nothing_summed _ S (keywords_nothing W u v none S S g)
  step_asks_nothing _ g v none = refl

  -- nor about a name
  pub asks_of_a_name : (S : Data) (n : Name) → (answer_for (meaning_step W u) S).asks (string n) ≡ 0
  asks_of_a_name S n = good_answer AsksNothing (meaning_step W u) (λ d. step_asks_nothing _) S (string n) refl

abbrev pub layer_steps : (W : World) → Steps W
layer_steps W = record {
  means = meaning_step W;
  refuses = malformations_step W;
  costs = cost_step W;
  stands = standing_step W;
  of_no_object = λ u S e. refl;
  of_a_name = asks_of_a_name W;
}

-- ---- by these a schema refuses and costs what it does by the definitions

pub layer_refuses : (W : World) (S : Data) (P : Path) → malformations_at (layer_steps W) S P ≡ own_malformations W S P
unfolding malformations_at own_malformations
layer_refuses W S P = refl

pub layer_costs : (W : World) (S : Data) → cost (layer_steps W) S ≡ own_cost W S
unfolding cost own_cost
layer_costs W S = refl
