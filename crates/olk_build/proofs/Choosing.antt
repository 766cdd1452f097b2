-- What is made of a part is the validator of its member.
use Rattle.std.proofs.Common.{◌≡◌, ℕ, ◌&&◌, ◌||◌, Bool, true, false, not, List, [], ◌∷◌, map, zip, length, codes, Option, Some, None, is_some, option_map, refl, sym, ◌∙◌, ap, subst, inl, inr}
use Rattle.std.proofs.Common.{true≢false}
use Rattle.std.specs.List.{enumerate_from}
use Rattle.std.proofs.Math.Bool.{and-false, and-true}
use Rattle.serde_json.specs.Data.{Data, boolean, object, Members}
use Rattle.olk_spec.specs.Names.{Name, Path, ◌//◌, lookup_name}
use Rattle.olk_spec.specs.Schemas.{listed, members, numbered, is_object, is_truth}
use Rattle.olk_spec.specs.Malformed.{items_of_array}
use Rattle.olk_spec.specs.Vocabulary.{Keyword, properties, pattern_properties, additional_properties, required, dependent_required, dependent_schemas, dependencies, property_names}
use Rattle.olk_spec.specs.Vocabulary.{property_dependencies, all_of, any_of, one_of, not_keyword, if_keyword, then_keyword, else_keyword, leaf, unread, keyword_named}
use Rattle.olk_meaning.specs.Conditions.{known_of, is_condition, is_restricted, is_conditional_name}
use Rattle.olk_meaning.specs.Plans.{plan_of}
use Rattle.olk_build.specs.Reading.{ArePatterns, IsPattern, reads_of, IsShape, Fits}
use Rattle.olk_build.specs.Chooser.{IsLeafAt, HasForm, IsChosen}
use Rattle.olk_build.specs.Forms.{IsFormOfAllOf, IsFormOfAnyOf, IsFormOfOneOf, IsAllOf, IsAnyOf, IsOneOf, IsNot, IsRequired, IsIf, IsProperties, IsPatternProperties, IsAdditionalProperties}
use Rattle.olk_build.specs.Forms.{IsDependencies, IsDependentRequired, IsDependentSchemas, IsPropertyNames, IsPropertyNamesFalse, IsPropertyDependencies}
use Rattle.olk_build.specs.Standing.{StandEach, StandAt, EntriesStand, FillsPlace, is_taken, is_if_shape, is_restriction_shape, CasesStand, BesideStands}
use Rattle.olk_build.specs.Made.{IsMade, MakesOthers}
use Rattle.std.proofs.{lemmas.List.length-map, lemmas.List.FromFn.length-enumerate_from, lemmas.Slice.Zip.AllZip-long}
use Rattle.olk_base.specs.{Kit.Kit, declared.pattern.CompiledPattern.CompiledPattern}
use Rattle.olk_meaning.proofs.{PropertyNames.false_is_no_object, Conditions.of_conditional}
use Rattle.olk_build.specs.{declared.shape.Shape.Shape, declared.shape.ReadPlaces.TheVariants.Itself}
use Rattle.olk_tree.specs.{Answers.Answers, declared.node.KeywordOver.KeywordOver, Questions.conditional}
use Rattle.olk_build.specs.{declared.part.DeclaredNodes.DeclaredNodes, declared.part.Patterns.Patterns, declared.part.TakenNeighbours.TakenNeighbours}
use Rattle.olk_build.specs.declared.shape.Shape.TheVariants as shape
use Rattle.olk_tree.specs.declared.node.KeywordOver.TheVariants as keyword
use Rattle.olk_tree.specs.Steps.{StandsBy, StepsOf}

-- ---- branches, and how many there are

module _ {K R N : Type 0} {L M : Path} (ns : List N) (d : Data) (e : length ns ≡ length (items_of_array d)) (place : L ≡ M) where
  all_of_form : (k : KeywordOver K R N) → IsFormOfAllOf L ns k → IsAllOf M d k
  all_of_form (keyword.AllOf k) f = ((λ q. f.1 (e ∙ q)), f.2 ∙ place)
  all_of_form (keyword.SingleValueAllOf k) f = (sym e ∙ ap length f.0, f.1 ∙ place)
  all_of_form k f = absurd f

  any_of_form : (k : KeywordOver K R N) → IsFormOfAnyOf L ns k → IsAnyOf M d k
  any_of_form (keyword.AnyOf k) f = ((λ q. f.1 (e ∙ q)), f.2 ∙ place)
  any_of_form (keyword.SingleAnyOf k) f = (sym e ∙ ap length f.0, f.1 ∙ place)
  any_of_form k f = absurd f

  one_of_form : (k : KeywordOver K R N) → IsFormOfOneOf L ns k → IsOneOf M d k
  one_of_form (keyword.OneOf k) f = ((λ q. f.1 (e ∙ q)), f.2 ∙ place)
  one_of_form (keyword.SingleOneOf k) f = (sym e ∙ ap length f.0, f.1 ∙ place)
  one_of_form k f = absurd f

-- ---- as many as there are

module _ {K R N : Type 0} {o : Kit K R} (I : StepsOf o) (answers : N → Answers) where
  pub branches_length : (ns : List N) (d : Data) (P : Path) → StandEach I answers ns (numbered (items_of_array d)) P → length ns ≡ length (items_of_array d)
  branches_length ns d P h = sym (AllZip-long (λ n e. StandsBy I answers n e.1 (P // e.0)) ns (numbered (items_of_array d)) h) ∙ length-map (enumerate_from 0 (items_of_array d)) _ ∙ length-enumerate_from 0 (items_of_array d)

  pub entries_length : (ps : List (CompiledPattern R × N)) (es : List (Name × Data)) (L : Path) → EntriesStand I answers ps es L → length ps ≡ length es
  entries_length ps es L h = sym (AllZip-long (λ e d. IsPattern o e.0 d.0 × StandsBy I answers e.1 d.1 (L // d.0)) ps es h)

  pub both_stand : (ps : List (CompiledPattern R)) (ns : List N) (ds : List (Name × Data)) (L : Path) → ArePatterns o ps ds → StandEach I answers ns ds L → EntriesStand I answers (zip ps ns) ds L
  both_stand [] ns [] L h s = tt
  both_stand (p ∷ ps) [] (d ∷ ds) L h s = absurd s
  both_stand (p ∷ ps) (n ∷ ns) (d ∷ ds) L h s = ((h.0, s.0), both_stand ps ns ds L h.1 s.1)
  both_stand _ ns _ L h s = absurd h

module _ {X : Type 0} (Means : X → Data → Type 0) where
  pub filled_as : (t : Option X) (a : Option Data) → FillsPlace Means t a → is_some t ≡ is_some a
  filled_as None None h = refl
  filled_as (Some n) (Some d) h = refl
  filled_as _ _ h = absurd h

  counted_as : (f : X → ℕ) → ((x : X) (d : Data) → Means x d → f x ≡ length (members d)) → (t : Option X) (a : Option Data) → FillsPlace Means t a → option_map f t ≡ option_map (λ d. length (members d)) a
  counted_as f same None None h = refl
  counted_as f same (Some x) (Some d) h = ap Some (same x d h)
  counted_as f same _ _ h = absurd h

-- ---- what tells kinds of values apart

object_is_not_true : (d : Data) → is_object d ≡ true → is_truth true d ≡ false
object_is_not_true (object ms) e = refl
object_is_not_true d e = absurd (cc)

false_is_not_true : (d : Data) → is_truth false d ≡ true → is_truth true d ≡ false
false_is_not_true (boolean false) e = refl
false_is_not_true d e = absurd (cc)

first_false : (a b : Bool) → (a || b) ≡ false → a ≡ false
first_false false b e = refl
first_false true b e = absurd (true≢false e)

-- ---- the validator of a member

module _ {K R N : Type 0} {o : Kit K R} (I : StepsOf o) (answers : N → Answers) (ms : Members) (P : Path) where
  -- a keyword that tells members by their names, and that no other takes
  unrestricted : (r c : Bool) → ((r && true) || (c && false)) ≡ false → r ≡ false
  unrestricted r c e = first_false r (c && false) (ap (λ b. b || (c && false)) (sym (and-true r)) ∙ e)

  module _ (k : Name) (d : Data) (L : Path) (place : L ≡ P // k) (ns : List N) (t : TakenNeighbours R N) where
    abbrev ChosenAt : Name → Option (KeywordOver K R N) → Type 0
    ChosenAt n r = IsChosen ms P (keyword_named o.world n) (n, d) r

    abbrev Chosen : Option (KeywordOver K R N) → Type 0
    Chosen = ChosenAt k

    named : (w : Keyword) (r : Option (KeywordOver K R N)) → keyword_named o.world k ≡ w → IsChosen ms P w (k, d) r → Chosen r
    named w r e h = subst (λ x. IsChosen ms P x (k, d) r) (sym e) h

    -- at its place
    at_place : (F : Path → KeywordOver K R N → Type 0) (x : KeywordOver K R N) → F L x → F (P // k) x
    at_place F x h = subst (λ M. F M x) place h

    others : (rest : Bool) → rest ≡ is_object d → BesideStands I answers (known_of ms) t.beside ms P → (x : KeywordOver K R N) → MakesOthers I answers L ns t P (plan_of ms) rest x
        → HasForm ms P additional_properties k d x
    others rest kind stand x form = subst (λ T. T) (λ i. IsAdditionalProperties P (place i) (kind i)
        (counted_as _ (λ (m : DeclaredNodes N). length m.names) (λ m d s. ap length s.names ∙ length-map (members d) (λ e. e.0)) t.beside.properties _ stand.0 i)
        (counted_as _ (λ (p : Patterns R N). length p.patterns.items)
        (λ p d s. entries_length I answers p.patterns.items (members d) (P // codes "patternProperties") s.entries) t.beside.patterns _ stand.1 i)
        (plan_of ms).fused_one x) form

    neither : (c x y : Bool) → (c && (x || y)) ≡ true → x ≡ false → y ≡ false → ⊥
    neither c x y e f g = true≢false (sym e ∙ (λ i. c && (f i || g i)) ∙ and-false c)

    -- `if`, `then` or `else` that is not read
    unpaired : is_conditional_name k ≡ true → is_condition ms ≡ false → Chosen None
    unpaired conditional alone = of_conditional (λ n. ChosenAt n None) (ap not alone) refl refl k conditional

    -- nothing is without a node
    no_node : {T : Type 0} → StandAt I answers Itself ns d L → ns ≡ [] → T
    no_node stand e = absurd (subst (λ x. StandAt I answers Itself x d L) e stand)

    pub chosen : (x : Shape K R) → IsShape o k d x → Fits o (known_of ms) x → StandAt I answers (reads_of x) ns d L → (is_if_shape x ≡ true → CasesStand I answers t.cases ms P)
        → (is_restriction_shape x ≡ true → BesideStands I answers (known_of ms) t.beside ms P) → is_taken (plan_of ms) k ≡ false → (r : Option (KeywordOver K R N)) → IsMade I answers x L ns t P (plan_of ms) r → Chosen r
    chosen (shape.Properties n) s f stand cases beside free (Some x) form = named properties (Some x) (ap (keyword_named o.world) s.0) (
      unrestricted (is_restricted ms) (is_condition ms) (subst (λ n. is_taken (plan_of ms) n ≡ false) s.0 free),
      subst (λ T. T) (λ i. IsProperties P (place i) ((ap length s.2 ∙ length-map (members d) (λ e. e.0)) i) (plan_of ms).fused_pair x) form,
    )
    chosen (shape.PatternProperties v) s f stand cases beside free (Some x) form = named pattern_properties (Some x) (ap (keyword_named o.world) s.0) (
      unrestricted (is_restricted ms) (is_condition ms) (subst (λ n. is_taken (plan_of ms) n ≡ false) s.0 free),
      subst (λ T. T) (λ i. IsPatternProperties (place i) (entries_length I answers (zip v.items ns) (members d) L (both_stand I answers v.items ns (members d) L s.2 stand) i) x) form,
    )
    chosen shape.AdditionalProperties s f stand cases beside free (Some x) form = named additional_properties (Some x) (ap (keyword_named o.world) s.0) (object_is_not_true d s.1, others true (sym s.1) (beside refl) x form)
    chosen shape.AdditionalProperties s f stand cases beside free None form = no_node stand form
    chosen shape.NoOthers s f stand cases beside free (Some x) form = named additional_properties (Some x) (ap (keyword_named o.world) s.0) (false_is_not_true d s.1, others false (sym (false_is_no_object d s.1)) (beside refl) x form)
    chosen shape.AnyOthers s f stand cases beside free None form = named additional_properties None (ap (keyword_named o.world) s.0) s.1
    chosen shape.PropertyNames s f stand cases beside free (Some x) form = named property_names (Some x) (ap (keyword_named o.world) s.0) (
      ap (λ b. not (b || is_truth false d)) s.1,
      ((λ e. at_place (λ M x. IsPropertyNames M x) x form), λ e. absurd (true≢false (sym s.1 ∙ false_is_no_object d e))),
    )
    chosen shape.PropertyNames s f stand cases beside free None form = no_node stand form
    chosen shape.NoNames s f stand cases beside free (Some x) form = named property_names (Some x) (ap (keyword_named o.world) s.0) (
      (λ i. not (false_is_no_object d s.1 i || s.1 i)),
      ((λ e. absurd (true≢false (sym e ∙ false_is_no_object d s.1))), λ e. at_place (λ M x. IsPropertyNamesFalse M x) x form),
    )
    chosen shape.AnyNames s f stand cases beside free None form = named property_names None (ap (keyword_named o.world) s.0) (λ i. not (s.1 i || s.2 i))
    chosen (shape.Required v) s f stand cases beside free (Some x) form = named required (Some x) (ap (keyword_named o.world) s.0) (form.0, subst (IsRequired (P // k) d) (sym form.1) (s.2, place))
    chosen (shape.Required v) s f stand cases beside free None form = named required None (ap (keyword_named o.world) s.0) form
    chosen (shape.DependentRequired n v) s f stand cases beside free (Some x) form = named dependent_required (Some x) (ap (keyword_named o.world) s.0) (refl, at_place (λ M x. IsDependentRequired M (map (λ e. e.0) (members d)) x) x (form (k, d) s refl))
    chosen (shape.DependentSchemas n) s f stand cases beside free (Some x) form = named dependent_schemas (Some x) (ap (keyword_named o.world) s.0) (refl, at_place (λ M x. IsDependentSchemas M (map (λ e. e.0) (members d)) x) x (form (k, d) s stand))
    chosen (shape.Dependencies n v) s f stand cases beside free (Some x) form = named dependencies (Some x) (ap (keyword_named o.world) s.0) (refl, at_place (λ M x. IsDependencies M (map (λ e. e.0) (members d)) x) x (form (k, d) s stand))
    chosen (shape.PropertyDependencies n v) s f stand cases beside free (Some x) form = named property_dependencies (Some x) (ap (keyword_named o.world) s.0) (
      refl,
      at_place (λ M x. IsPropertyDependencies M (map (λ e. e.0) (members d)) (map (λ e. map (λ c. c.0) (members e.1)) (members d)) x) x (form (k, d) s stand),
    )
    chosen shape.AllOf s f stand cases beside free (Some x) form = named all_of (Some x) (ap (keyword_named o.world) s.0) (refl, all_of_form ns d (branches_length I answers ns d L stand) place x form)
    chosen shape.AnyOf s f stand cases beside free (Some x) form = named any_of (Some x) (ap (keyword_named o.world) s.0) (refl, any_of_form ns d (branches_length I answers ns d L stand) place x form)
    chosen shape.OneOf s f stand cases beside free (Some x) form = named one_of (Some x) (ap (keyword_named o.world) s.0) (refl, one_of_form ns d (branches_length I answers ns d L stand) place x form)
    chosen (shape.Not v) s f stand cases beside free (Some x) form = named not_keyword (Some x) (ap (keyword_named o.world) s.0) (refl, subst (λ T. T) (λ i. IsNot (place i) (s.1 i) x) form)
    chosen (shape.Not v) s f stand cases beside free None form = no_node stand form
    chosen shape.If s f stand cases beside free (Some x) form = named if_keyword (Some x) (ap (keyword_named o.world) s) (
      ap not f,
      subst (λ T. T) (λ i. IsIf (place i) (filled_as _ t.cases.then_schema _ (cases refl).0 i) (filled_as _ t.cases.else_schema _ (cases refl).1 i) x) form,
    )
    chosen shape.If s f stand cases beside free None form = elim form [
      | inl e ↦ no_node stand e
      | inr e ↦ absurd (neither (is_some (lookup_name (codes "if") (listed ms))) _ _ f (sym (filled_as _ t.cases.then_schema _ (cases refl).0) ∙ ap is_some e.0) (sym (filled_as _ t.cases.else_schema _ (cases refl).1) ∙ ap is_some e.1))
    ]
    chosen shape.Then s f stand cases beside free None form = named then_keyword None (ap (keyword_named o.world) s) refl
    chosen shape.Else s f stand cases beside free None form = named else_keyword None (ap (keyword_named o.world) s) refl
    chosen shape.Unpaired s f stand cases beside free None form = unpaired s f
    chosen (shape.Leaf l) s f stand cases beside free (Some x) form = named leaf (Some x) s.0 (refl, subst (IsLeafAt (P // k)) (sym form) place)
    chosen shape.Unread s f stand cases beside free None form = named unread None s refl
    chosen x s f stand cases beside free r form = absurd form
