-- What is wrong with a keyword itself, and the shape that is read.
use Rattle.std.proofs.Common.{◌≡◌, ◌||◌, Bool, true, false, cond, List, [], ◌∷◌, ◌++◌, codes, refl, sym, ◌∙◌, ap, subst, true≢false}
use Rattle.std.proofs.Math.Bool.{or-false}
use Rattle.serde_json.specs.Data.{Data, array}
use Rattle.olk_spec.specs.Names.{Name, Path, is_among}
use Rattle.olk_spec.specs.World.{World}
use Rattle.olk_spec.specs.Vocabulary.{Keyword, leaf, unsupported, unsupported_names, keyword_named}
use Rattle.olk_spec.specs.Faults.{Fault, fault, MultipleTypes, LeafRefused, Unsupported, SingleType, object_type, array_type}
use Rattle.olk_spec.specs.Schemas.{read, members, is_object, is_array, is_truth}
use Rattle.olk_spec.specs.Malformed.{refusal, own_refusals, malformations_step, unless_object, unless_array, unless_kind, not_a_text}
use Rattle.olk_spec.specs.Costs.{Cost, no_cost}
use Rattle.olk_spec.proofs.Reading.{schema_of_read}
use Rattle.olk_base.specs.Count.{Counts, count_leaf}
use Rattle.olk_base.proofs.CountLemmas.{raised_zero}
use Rattle.olk_base.specs.Kit.{Kit}
use Rattle.olk_meaning.proofs.PatternProperties.{pattern_properties_refusals, unbuilt_together}
use Rattle.olk_build.specs.Reading.{name_list_faults, list_faults, no_object_faults, IsFor, IsOther, IsShape, Fits, IsRead, own_faults, own_cost_of}
use Rattle.olk_meaning.proofs.Dependencies.{dependent_required_refusals, dependencies_refusals}
use Rattle.olk_meaning.proofs.{PropertyDependencies.property_dependencies_refusals, AdditionalProperties.additional_refusals}
use Rattle.olk_build.specs.Refusing.{Spends, TellsOneOf, Refuses}
use Rattle.olk_meaning.specs.Conditions.{is_conditional_name, Known}
use Rattle.olk_build.proofs.KeywordNames.{refused_keyword}
use Rattle.olk_build.proofs.Spending.{spends_nothing, spends_same, within_nothing, within_exactly, tells_same, refuses_memory}
use Rattle.std.specs.{List.flat_map, declared.alloc.AllocError.AllocError}
use Rattle.olk_reports.specs.{declared.error.BuildError.BuildError, declared.error.BuildError.TheVariants.Memory}
use Rattle.olk_meaning.specs.{PatternProperties.pattern_faults, AdditionalProperties.is_rule}
use Rattle.olk_build.specs.{declared.reading.KeywordFor.KeywordFor, declared.shape.Shape.Shape}
use Rattle.olk_build.specs.declared.reading.KeywordFor.TheVariants as for
use Rattle.olk_build.specs.declared.shape.Shape.TheVariants as shape

pub spends_leaf : (a b : Counts) → b ≡ count_leaf a → Spends a b (record no_cost { leaf_places = 1 })
spends_leaf a b e = e ∙ rw (raised_zero a.compiled, raised_zero a.made, raised_zero a.asked, raised_zero a.unfinished) refl

-- ---- values of a kind

pub no_text_missed : (d : Data) (L : Path) → is_array d ≡ false → not_a_text d L ≡ []
no_text_missed (array ds) L e = absurd (true≢false e)
no_text_missed d L e = refl

module _ (W : World) (d : Data) (L : Path) where
  abbrev whole : Data
  whole = (read (malformations_step W) d).whole.schema

  same : whole ≡ d
  same = schema_of_read (malformations_step W) d

  -- what is wrong with a keyword itself, by what it is
  abbrev pub wrong_for : Name → KeywordFor → List Fault
  wrong_for k for.Properties = unless_object d L
  wrong_for k for.PatternProperties = unless_object d L ++ flat_map (λ e. pattern_faults W L e.0) (members d)
  wrong_for k for.AdditionalProperties = unless_kind (is_rule d) MultipleTypes d L
  wrong_for k for.PropertyNames = []
  wrong_for k for.Required = unless_array d L ++ not_a_text d L
  wrong_for k for.DependentRequired = unless_object d L ++ name_list_faults L (members d)
  wrong_for k for.DependentSchemas = unless_object d L
  wrong_for k for.Dependencies = unless_object d L ++ list_faults L (members d)
  wrong_for k for.PropertyDependencies = unless_object d L ++ no_object_faults L (members d)
  wrong_for k for.AllOf = unless_array d L
  wrong_for k for.AnyOf = unless_array d L
  wrong_for k for.OneOf = unless_array d L
  wrong_for k for.Not = []
  wrong_for k for.If = []
  wrong_for k for.Then = []
  wrong_for k for.Else = []
  wrong_for k w = own_faults W k d L

  pub own_for : (k : Name) (w : KeywordFor) → IsFor k w → own_faults W k d L ≡ wrong_for k w
  own_for k for.Properties q = rw q (ap (λ s. unless_object s L) same)
  own_for k for.PatternProperties q =
      rw q (pattern_properties_refusals (malformations_step W) d (codes "patternProperties") W L ∙ ap (λ fs. unless_object d L ++ fs) (sym (unbuilt_together W L (members d))))
  own_for k for.AdditionalProperties q = rw q (additional_refusals (malformations_step W) d (codes "additionalProperties") W L)
  own_for k for.Required q = rw q (ap (λ s. unless_array s L ++ not_a_text s L) same)
  own_for k for.DependentRequired q = rw q (dependent_required_refusals (malformations_step W) d (codes "dependentRequired") W L)
  own_for k for.DependentSchemas q = rw q (ap (λ s. unless_object s L) same)
  own_for k for.Dependencies q = rw q (dependencies_refusals (malformations_step W) d (codes "dependencies") W L)
  own_for k for.PropertyDependencies q = rw q (property_dependencies_refusals (malformations_step W) d (codes "propertyDependencies") W L)
  own_for k for.AllOf q = rw q (ap (λ s. unless_array s L) same)
  own_for k for.AnyOf q = rw q (ap (λ s. unless_array s L) same)
  own_for k for.OneOf q = rw q (ap (λ s. unless_array s L) same)
  own_for k for.Refused q = refl
  own_for k for.Other q = refl
  own_for k w q = rw q refl

  module _ (k : Name) where
    own_of : (w : Keyword) → keyword_named W k ≡ w → own_faults W k d L ≡ own_refusals W k (read (malformations_step W) d) L w
    own_of w q = ap (own_refusals W k (read (malformations_step W) d) L) q

    pub own_leaf : keyword_named W k ≡ leaf → own_faults W k d L ≡ unless_kind (W.fits k d) (LeafRefused k) d L
    own_leaf q = own_of leaf q ∙ ap (λ s. unless_kind (W.fits k s) (LeafRefused k) s L) same

    -- a name that is refused whatever its value
    pub own_unsupported : keyword_named W k ≡ unsupported → own_faults W k d L ≡ refusal (Unsupported k) d L ∷ []
    own_unsupported q = own_of unsupported q ∙ ap (λ s. refusal (Unsupported k) s L ∷ []) same

pub object_is_right : (d : Data) (L : Path) → is_object d ≡ true → unless_object d L ≡ []
object_is_right d L e = ap (λ b. unless_kind b (SingleType object_type) d L) e

pub array_is_right : (d : Data) (L : Path) → is_array d ≡ true → unless_array d L ≡ []
array_is_right d L e = ap (λ b. unless_kind b (SingleType array_type) d L) e

-- ---- what is told

-- a keyword's own faults, where it is known which it is
pub refuses_own : (W : World) (k : Name) (d : Data) (L : Path) {v w : KeywordFor} {c : Cost} {a : Counts} {e : BuildError} → v ≡ w → IsFor k v → TellsOneOf (wrong_for W d L k w) e
    → Refuses (own_faults W k d L) c a a e
refuses_own W k d L {w = w} {e = e} p q t = record { tells = tells_same (sym (own_for W d L k w (subst (IsFor k) p q))) e t; spends = within_nothing }

module _ (W : World) (k : Name) (d : Data) (q : keyword_named W k ≡ leaf) (a b : Counts) (count : b ≡ count_leaf a) where
  leaf_spent : Spends a b (own_cost_of W d (keyword_named W k))
  leaf_spent = subst (λ w. Spends a b (own_cost_of W d w)) (sym q) (spends_leaf a b count)

  pub refuses_leaf : (L : Path) (e : BuildError) → W.fits k d ≡ false → TellsOneOf (fault (LeafRefused k) d [] L ∷ []) e → Refuses (own_faults W k d L) (own_cost_of W d (keyword_named W k)) a b e
  refuses_leaf L e fits t = record { tells = tells_same (ap (λ f. unless_kind f (LeafRefused k) d L) (sym fits) ∙ sym (own_leaf W d L k q)) e t; spends = within_exactly leaf_spent }

  pub refuses_leaf_memory : (fs : List Fault) {m : AllocError} (e : BuildError) → e ≡ Memory m → Refuses fs (own_cost_of W d (keyword_named W k)) a b e
  refuses_leaf_memory fs e p = refuses_memory (within_exactly leaf_spent) e p

pub refuses_name : (W : World) (k : Name) (d : Data) (L : Path) {c : Cost} {a : Counts} {e : BuildError} → IsOther k → is_among k unsupported_names ≡ true
    → TellsOneOf (fault (Unsupported k) d [] L ∷ []) e → Refuses (own_faults W k d L) c a a e
refuses_name W k d L {e = e} other among t = record { tells = tells_same (sym (own_unsupported W d L k (refused_keyword W k other among))) e t; spends = within_nothing }

-- ---- what is read

module _ {K R : Type 0} (o : Kit K R) where
  -- a keyword without own costs, by its name
  pub is_read : (w : KeywordFor) {x : Shape K R} {c : Known} {k n : Name} {d : Data} {L : Path} {a : Counts} → k ≡ n → IsFor n w → IsShape o n d x → Fits o c x
      → wrong_for o.world d L n w ≡ [] → own_cost_of o.world d (keyword_named o.world n) ≡ no_cost → IsRead o x c k d L a a
  is_read w {n = n} {d} {L} {a} p q s f right z =
      rw p record { shape = s; fits = f; clean = own_for o.world d L n w q ∙ right; spends = spends_same a a _ _ (sym z) (spends_nothing a) }

  -- one of the three that are read together
  pub conditional_is_read : (w : KeywordFor) (x : Shape K R) (c : Known) {k n : Name} {d : Data} {L : Path} {a : Counts} → k ≡ n → IsFor n w → IsShape o n d x
      → (c.condition ≡ true → Fits o c x) → is_conditional_name n ≡ true → wrong_for o.world d L n w ≡ [] → own_cost_of o.world d (keyword_named o.world n) ≡ no_cost
      → IsRead o (cond c.condition x shape.Unpaired) c k d L a a
  conditional_is_read w x c {k} {d = d} {L} {a} p i s f e right z = by c.condition refl
    where
      by : (b : Bool) → c.condition ≡ b → IsRead o (cond b x shape.Unpaired) c k d L a a
      by true q = is_read w p i s (f q) right z
      by false q = is_read w p i e q right z

  -- a rule for other members
  pub others_are_read : {c : Known} {k : Name} (d : Data) {L : Path} {a : Counts} → k ≡ codes "additionalProperties" → is_rule d ≡ true
      → IsRead o (cond (is_object d) shape.AdditionalProperties (cond (is_truth false d) shape.NoOthers shape.AnyOthers)) c k d L a a
  others_are_read {c} {k} d {L} {a} p rule = by (is_object d) (is_truth false d) refl refl
    where
      right : wrong_for o.world d L (codes "additionalProperties") for.AdditionalProperties ≡ []
      right = ap (λ b. unless_kind b MultipleTypes d L) rule

      true_left : is_object d ≡ false → is_truth false d ≡ false → is_truth true d ≡ true
      true_left e f = sym (or-false (is_truth true d)) ∙ (λ i. sym e i || is_truth true d || sym f i) ∙ rule

      by : (x y : Bool) → is_object d ≡ x → is_truth false d ≡ y → IsRead o (cond x shape.AdditionalProperties (cond y shape.NoOthers shape.AnyOthers)) c k d L a a
      by true y e f = is_read for.AdditionalProperties p refl (refl, e) tt right refl
      by false true e f = is_read for.AdditionalProperties p refl (refl, f) tt right refl
      by false false e f = is_read for.AdditionalProperties p refl (refl, true_left e f) tt right refl

  -- a schema for names
  pub names_are_read : {c : Known} {k : Name} (d : Data) {L : Path} {a : Counts} → k ≡ codes "propertyNames"
      → IsRead o (cond (is_object d) shape.PropertyNames (cond (is_truth false d) shape.NoNames shape.AnyNames)) c k d L a a
  names_are_read {c} {k} d {L} {a} p = by (is_object d) (is_truth false d) refl refl
    where
      by : (x y : Bool) → is_object d ≡ x → is_truth false d ≡ y → IsRead o (cond x shape.PropertyNames (cond y shape.NoNames shape.AnyNames)) c k d L a a
      by true y e f = is_read for.PropertyNames p refl (refl, e) tt refl refl
      by false true e f = is_read for.PropertyNames p refl (refl, f) tt refl refl
      by false false e f = is_read for.PropertyNames p refl (refl, e, f) tt refl refl
