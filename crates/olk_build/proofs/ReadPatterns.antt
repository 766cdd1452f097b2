-- The patterns of `patternProperties`, one after another, and how many matchers a table that is made of them asks.
use Rattle.std.proofs.Common.{◌≡◌, ◌⊎◌, Bool, true, false, not, cond, ◌&&◌, Option, Some, None, is_none, List, [], ◌∷◌, ◌++◌, ◌+◌, ℕ, Vec, map, length, codes, refl, sym, ◌∙◌, subst, inl, inr, ap}
use Rattle.std.proofs.Common.{arith, true≢false, Global}
use Rattle.serde_json.specs.Data.{Data, string}
use Rattle.olk_spec.specs.Names.{Name, Text, Path, ◌//◌, put_if, filter_once}
use Rattle.olk_spec.specs.Literals.{Literal, literal}
use Rattle.olk_spec.specs.Costs.{Cost, no_cost}
use Rattle.olk_base.specs.Count.{Counts, count_made}
use Rattle.olk_base.specs.Compiled.{pattern_builds, count_open, pattern_costs}
use Rattle.olk_base.proofs.CountLemmas.{raised_zero}
use Rattle.olk_reports.specs.declared.error.BuildError.{BuildError}
use Rattle.olk_meaning.specs.PatternProperties.{pattern_faults, matcher_made}
use Rattle.olk_build.specs.Refusing.{Spends, SpendsWithin}
use Rattle.olk_build.proofs.Spending.{spends_nothing, within_nothing, within_exactly, tells_same, SoFar}
use Rattle.olk_build.specs.Reading.{ArePatterns, PatternsAreRead, RefusesPatterns, IsRead, RefusesKeyword}
use Rattle.std.proofs.lemmas.List.Sums.{sum_by-cons}
use Rattle.olk_spec.specs.Schemas.{members, is_object}
use Rattle.olk_meaning.specs.Conditions.{Known}
use Rattle.olk_meaning.proofs.PatternProperties.{made_together}
use Rattle.olk_tree.specs.Tables.{how_many_cost, count_asks, AsksAtMost}
use Rattle.olk_build.proofs.Read.{own_for, object_is_right}
use Rattle.std.specs.{Option.option_map_or, List.flat_map}
use Rattle.olk_spec.specs.{World.World, Faults.Regex, Malformed.refusal, Meanings.is_open}
use Rattle.olk_base.specs.{Kit.Kit, declared.pattern.CompiledPattern.CompiledPattern}
use Rattle.olk_build.specs.declared.shape.Shape.TheVariants as shape
use Rattle.olk_build.specs.declared.reading.KeywordFor.TheVariants as for

-- ---- one pattern

module _ (W : World) (t : Text) where
  pub refused_pattern : (L : Path) → pattern_builds W t ≡ false → pattern_faults W L t ≡ refusal Regex (string t) (L // t) ∷ []
  refused_pattern L h = by (literal t) (W.builds t) h
    where
      by : (l : Option Literal) (b : Bool) → option_map_or (λ x. true) l b ≡ false → put_if (is_none l && not b) (refusal Regex (string t) (L // t)) [] ≡ refusal Regex (string t) (L // t) ∷ []
      by None false e = refl
      by _ _ e = absurd (true≢false e)

  spends_made : (a b : Counts) → b ≡ count_made a → Spends a b (record no_cost { pattern_places = 1 })
  spends_made a b e = e ∙ rw (raised_zero a.compiled, raised_zero a.leaves, raised_zero a.asked, raised_zero a.unfinished) refl

  spends_open : (a b : Counts) → b ≡ count_open t a → Spends a b (matcher_made W t)
  spends_open a b e = by (literal t) e
    where
      by : (l : Option Literal) → b ≡ option_map_or (λ x. a) l (count_made a) → Spends a b (cond (is_none l) (record no_cost { pattern_places = 1 }) no_cost)
      by None q = spends_made a b q
      by (Some l) q = subst (λ x. Spends a x no_cost) (sym q) (spends_nothing a)

  pub spends_open_at_most : (a b : Counts) → (b ≡ a) ⊎ (b ≡ count_open t a) → SpendsWithin a b (matcher_made W t)
  spends_open_at_most a b (inl e) = subst (λ x. SpendsWithin a x (matcher_made W t)) (sym e) within_nothing
  spends_open_at_most a b (inr e) = within_exactly (spends_open a b e)

-- ---- one after another

-- the patterns so far are read
abbrev pub PatternsSoFar : {K R : Type 0} → Kit K R → Path → List (Name × Data) → Counts → List (CompiledPattern R) → List (Name × Data) → Counts → Type 0
PatternsSoFar o L all a ps left m = SoFar (λ e. pattern_faults o.world L e.0) (λ e. matcher_made o.world e.0) (λ ps es. ArePatterns o ps es) all a ps left m

-- ---- the patterns of `patternProperties`, and how many matchers a table that is made of them asks

-- each that costs is one that is open
module _ {K R : Type 0} (o : Kit K R) where
  pub open_cost : (ps : List (CompiledPattern R)) (es : List (Name × Data)) → ArePatterns o ps es → how_many_cost o.costs ps ≡ length (filter_once (is_open o.world) (map (λ e. e.0) es))
  open_cost [] [] h = refl
  open_cost (p ∷ ps) (e ∷ es) h = sum_by-cons (λ q. cond (pattern_costs o.costs q) 1 0) p ps ∙ (λ i. cond (h.0.costs i) 1 0 + open_cost ps es h.1 i)
      ∙ by (is_open o.world e.0)
    where
      by : (b : Bool) → cond b 1 0 + length (filter_once (is_open o.world) (map (λ x. x.0) es)) ≡ length (put_if b e.0 (filter_once (is_open o.world) (map (λ x. x.0) es)))
      by true = omega arith
      by false = omega arith
  open_cost _ _ h = absurd h

-- ---- a table that is made of them

-- asks of a table
abbrev pub asks : ℕ → Cost
asks n = record no_cost { table_asks = n }

pub spends_asks : (n m : ℕ) (a b : Counts) → n ≡ m → b ≡ count_asks n a → Spends a b (asks m)
spends_asks n m a b e h = h ∙ ap (λ x. count_asks x a) e

pub within_asks : (n m : ℕ) (a b : Counts) → n ≡ m → AsksAtMost n a b → SpendsWithin a b (asks m)
within_asks n m a b e h = record {
  spent = asks h.times;
  exactly = h.exactly;
  within = record { places = omega arith; leaf_places = omega arith; pattern_places = omega arith; table_asks = omega (arith, h.within, e) };
}

-- ---- the keyword's value d is read, which stands at L

module _ {K R : Type 0} (o : Kit K R) (d : Data) (L : Path) (is_map : is_object d ≡ true) {a b : Counts} where
  pub refuses_patterns : {e : BuildError} → RefusesPatterns o (members d) L a b e → RefusesKeyword o (codes "patternProperties") d L a b e
  refuses_patterns {e} h = record {
    tells = tells_same (sym (own_for o.world d L (codes "patternProperties") for.PatternProperties refl ∙ (λ i. object_is_right d L is_map i ++ flat_map (λ x. pattern_faults o.world L x.0) (members d)))) e h.tells;
    spends = subst (SpendsWithin a b) (made_together o.world (members d)) h.spends;
  }

  pub patterns_are_read : (v : Vec (CompiledPattern R) Global) → PatternsAreRead o v.items (members d) L a b → (c : Known) → IsRead o (shape.PatternProperties v) c (codes "patternProperties") d L a b
  patterns_are_read v h c = record {
    shape = (refl, is_map, h.stand);
    fits = tt;
    clean = own_for o.world d L (codes "patternProperties") for.PatternProperties refl ∙ (λ i. object_is_right d L is_map i ++ h.clean i);
    spends = subst (Spends a b) (made_together o.world (members d)) h.spends;
  }
