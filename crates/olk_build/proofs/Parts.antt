-- The parts of a schema object: each is built, or why there is none.
use Rattle.std.proofs.Common.{◌≡◌, ◌+◌, Bool, true, false, List, [], ◌++◌, map, refl, sym, ◌∙◌, ap, subst, arith, true≢false, append-nil}
use Rattle.std.specs.List.{flat_map}
use Rattle.serde_json.specs.Data.{Data, boolean, Members}
use Rattle.olk_spec.specs.Names.{Name, Path, ◌//◌, down}
use Rattle.olk_spec.specs.Vocabulary.{Keyword, pattern_properties, additional_properties, keyword_named}
use Rattle.olk_spec.specs.Faults.{Fault}
use Rattle.olk_spec.specs.Schemas.{Schema, Sub, read, read_members, members, numbered, is_object, is_truth}
use Rattle.olk_spec.specs.Malformed.{each, itself, places_where, read_places, malformations_step, own_refusals, items_of_array}
use Rattle.olk_spec.specs.Costs.{Cost, own_cost, total_cost, ◌⊕◌}
use Rattle.olk_spec.proofs.Reading.{entry, place, whole_read, entries_read}
use Rattle.olk_reports.specs.declared.error.BuildError.{BuildError}
use Rattle.olk_meaning.specs.Dependencies.{schema_entries}
use Rattle.olk_build.specs.Building.{RefusesPart, later_cost, places_malformed, places_cost, PlacesAreBuilt, RefusesPlaces, IsPart}
use Rattle.olk_build.specs.Reading.{reads_of, own_faults, own_cost_of, IsShape, Fits, IsRead, RefusesKeyword}
use Rattle.olk_meaning.specs.Conditions.{Known, known_of, is_conditional_name, IsKnown}
use Rattle.olk_build.specs.declared.shape.ReadPlaces.TheVariants.{Nothing, Itself, Entries, SchemaEntries, InnerEntries, Branches}
use Rattle.olk_tree.specs.Answers.{Answers}
use Rattle.olk_meaning.proofs.Refusals.{same_refusals}
use Rattle.olk_meaning.proofs.Facts.{branch_entries, each_malformations, each_costs}
use Rattle.olk_meaning.proofs.{Dependencies.dependencies_places, AdditionalProperties.additional_places, Conditions.places_by_condition}
use Rattle.olk_meaning.proofs.{PatternProperties.pattern_properties_known_cost, PropertyNames.false_is_no_object}
use Rattle.olk_meaning.proofs.PropertyDependencies.{inner_places, property_dependencies_places, inner_malformations, inner_costs}
use Rattle.olk_spec.proofs.CostSums.{sum_last}
use Rattle.olk_build.proofs.Spending.{spends_append, within_after, within_before, within_same, tells_left, tells_right, tells_same}
use Rattle.olk_base.specs.{Count.Counts, Kit.Kit}
use Rattle.olk_build.specs.{declared.shape.ReadPlaces.ReadPlaces, declared.shape.Shape.Shape, Standing.StandAt, declared.part.Part.Part}
use Rattle.olk_build.specs.declared.shape.Shape.TheVariants as shape
use Rattle.olk_meaning.specs.Steps.{malformations_at, cost}
use Rattle.olk_tree.specs.Steps.{StepsOf}

true_is_no_object : (d : Data) → is_truth true d ≡ true → is_object d ≡ false
true_is_no_object (boolean b) e = refl
true_is_no_object d e = absurd (true≢false (sym e))

-- what is told and what is counted of subschemas at their places
abbrev told : Path → List (Sub (Path → List Fault) × List Name) → List Fault
told P = flat_map (λ r. r.0.answer (down P r.1))

abbrev totalled : List (Sub Cost × List Name) → Cost
totalled = total_cost (λ r. r.0.answer)

-- ---- the places of a keyword

module _ {X : Type 0} (step : Schema X → X) (d : Data) where
  abbrev places_of : Name → ReadPlaces → List (Sub X × List Name)
  places_of k Nothing = []
  places_of k Itself = itself k (place step d)
  places_of k Entries = each k (map (entry step) (members d))
  places_of k SchemaEntries = each k (map (entry step) (schema_entries d))
  places_of k InnerEntries = inner_places step d k
  places_of k Branches = each k (map (entry step) (numbered (items_of_array d)))

  module _ (ms : Members) where
    abbrev read_under : Name → Keyword → List (Sub X × List Name)
    read_under k w = read_places k (read_members step ms) (read step d) w

    -- `additionalProperties` and `propertyNames` are read where they are an object
    where_object : (k : Name) {b : Bool} → is_object d ≡ b → read_under k additional_properties ≡ places_where k b (itself k (place step d))
    where_object k e = additional_places step d k (read_members step ms) ∙ ap (λ b. places_where k b (itself k (place step d))) e

    -- they are those that the shape reads, one line for each
    module _ {K R : Type 0} (o : Kit K R) (k : Name) (c : Known) (h : IsKnown c ms k) where
      where_condition : {b : Bool} → is_conditional_name k ≡ true → c.condition ≡ b → read_under k (keyword_named o.world k) ≡ places_where k b (itself k (place step d))
      where_condition e f = places_by_condition step ms o.world k d c h e ∙ (λ i. places_where k (f i) (itself k (whole_read step d i)))

      shape_places : (x : Shape K R) → IsShape o k d x → Fits o c x → read_under k (keyword_named o.world k) ≡ places_of k (reads_of x)
      shape_places (shape.Properties n) s f = rw s.0 (ap (each _) (entries_read step d))
      shape_places (shape.PatternProperties v) s f = rw s.0 (ap (each _) (entries_read step d))
      shape_places (shape.Required v) s f = rw s.0 refl
      shape_places (shape.DependentRequired n v) s f = rw s.0 refl
      shape_places (shape.DependentSchemas n) s f = rw s.0 (ap (each _) (entries_read step d))
      shape_places (shape.Dependencies n v) s f = rw s.0 (dependencies_places step d _ (read_members step ms))
      shape_places (shape.PropertyDependencies n v) s f = rw s.0 (property_dependencies_places step d _ (read_members step ms))
      shape_places shape.AdditionalProperties s f = rw s.0 (where_object _ s.1)
      shape_places shape.NoOthers s f = rw s.0 (where_object _ (false_is_no_object d s.1))
      shape_places shape.AnyOthers s f = rw s.0 (where_object _ (true_is_no_object d s.1))
      shape_places shape.PropertyNames s f = rw s.0 (where_object _ s.1)
      shape_places shape.NoNames s f = rw s.0 (where_object _ (false_is_no_object d s.1))
      shape_places shape.AnyNames s f = rw s.0 (where_object _ s.1)
      shape_places shape.AllOf s f = rw s.0 (ap (each _) (branch_entries step d))
      shape_places shape.AnyOf s f = rw s.0 (ap (each _) (branch_entries step d))
      shape_places shape.OneOf s f = rw s.0 (ap (each _) (branch_entries step d))
      shape_places (shape.Not v) s f = rw s.0 (ap (itself _) (whole_read step d))
      shape_places shape.Unpaired s f = where_condition s f
      shape_places (shape.Leaf l) s f = ap (read_under k) s.0
      shape_places shape.Unread s f = ap (read_under k) s
      shape_places _ s f = where_condition (ap is_conditional_name s) f

module _ {K R : Type 0} {o : Kit K R} (I : StepsOf o) (ms : Members) (d : Data) where
  abbrev found : Name → Path → Keyword → List Fault
  found k P w = told P (read_under I.steps.refuses d ms k w)

  abbrev summed : Name → Keyword → Cost
  summed k w = totalled (read_under I.steps.costs d ms k w)

  abbrev owned : Keyword → Cost
  owned w = own_cost o.world (read_members I.steps.costs ms) (read I.steps.costs d) w

  places_told : (k : Name) (P : Path) (r : ReadPlaces) → told P (places_of I.steps.refuses d k r) ≡ places_malformed I r d (P // k)
  unfolding malformations_at
  places_told k P Nothing = refl
  places_told k P Itself = append-nil _
  places_told k P Entries = each_malformations I.steps k P (members d)
  places_told k P SchemaEntries = each_malformations I.steps k P (schema_entries d)
  places_told k P InnerEntries = inner_malformations I.steps d k P
  places_told k P Branches = each_malformations I.steps k P (numbered (items_of_array d))

  places_totalled : (k : Name) (r : ReadPlaces) → totalled (places_of I.steps.costs d k r) ≡ places_cost I r d
  unfolding cost
  places_totalled k Nothing = refl
  places_totalled k Itself = sum_last _
  places_totalled k Entries = each_costs I.steps k (members d)
  places_totalled k SchemaEntries = each_costs I.steps k (schema_entries d)
  places_totalled k InnerEntries = inner_costs I.steps d k
  places_totalled k Branches = each_costs I.steps k (numbered (items_of_array d))

  -- what reading counts and what is counted later are the keyword's own cost
  own_of_keyword : (w : Keyword) → owned w ≡ own_cost_of o.world d w ⊕ later_cost I ms d w
  own_of_keyword pattern_properties = pattern_properties_known_cost I.steps ms d
  own_of_keyword w = refl

  -- the keyword of the name k, where enough is known of its neighbours
  module _ (c : Known) (k : Name) (known : IsKnown c ms k) where
    module _ (x : Shape K R) (s : IsShape o k d x) (f : Fits o c x) where
      places_found : (P : Path) → found k P (keyword_named o.world k) ≡ places_malformed I (reads_of x) d (P // k)
      places_found P = ap (told P) (shape_places I.steps.refuses d ms o k c known x s f) ∙ places_told k P (reads_of x)

      places_summed : summed k (keyword_named o.world k) ≡ places_cost I (reads_of x) d
      places_summed = ap totalled (shape_places I.steps.costs d ms o k c known x s f) ∙ places_totalled k (reads_of x)

    -- a shape that is read as it is to be is so in each object that has the keyword
    fits_there : (x : Shape K R) → IsShape o k d x → Fits o c x → Fits o (known_of ms) x
    fits_there shape.If s f = sym (known (ap is_conditional_name s)).0 ∙ f
    fits_there shape.Then s f = sym (known (ap is_conditional_name s)).0 ∙ f
    fits_there shape.Else s f = sym (known (ap is_conditional_name s)).0 ∙ f
    fits_there shape.Unpaired s f = sym (known s).0 ∙ f
    fits_there x s f = tt

  -- what is wrong with the keyword itself
  abbrev own_told : Name → Path → List Fault
  own_told k L = own_refusals o.world k (read I.steps.refuses d) L (keyword_named o.world k)

  own_is_told : (k : Name) (L : Path) → own_faults o.world k d L ≡ own_told k L
  own_is_told k L = same_refusals (malformations_step o.world) I.steps.refuses o.world k d L (keyword_named o.world k)

-- ---- one member

pub refuses_part_own : {K R : Type 0} {o : Kit K R} (I : StepsOf o) (c : Known) (k : Name) (d : Data) {L : Path} {a b : Counts} {e : BuildError} → RefusesKeyword o k d L a b e → RefusesPart I c k d L a b e
refuses_part_own {o = o} I c k d {a = a} {b} {e} h ms P p known = record {
  tells = tells_left (own_told I ms d k (P // k)) (found I ms d k P (keyword_named o.world k)) e (tells_same (ap (own_faults o.world k d) p ∙ own_is_told I ms d k (P // k)) e h.tells);
  spends = within_before a b _ (summed I ms d k (keyword_named o.world k))
      (within_same (sym (own_of_keyword I ms d (keyword_named o.world k))) (within_before a b _ (later_cost I ms d (keyword_named o.world k)) h.spends));
}

-- two costs the other way round, behind a first
last_two : (a b c : Cost) → (a ⊕ b) ⊕ c ≡ (a ⊕ c) ⊕ b
last_two a b c = λ i. record { places = p i; leaf_places = l i; pattern_places = m i; table_asks = t i }
  where
    p : (a.places + b.places) + c.places ≡ (a.places + c.places) + b.places
    p = omega arith

    l : (a.leaf_places + b.leaf_places) + c.leaf_places ≡ (a.leaf_places + c.leaf_places) + b.leaf_places
    l = omega arith

    m : (a.pattern_places + b.pattern_places) + c.pattern_places ≡ (a.pattern_places + c.pattern_places) + b.pattern_places
    m = omega arith

    t : (a.table_asks + b.table_asks) + c.table_asks ≡ (a.table_asks + c.table_asks) + b.table_asks
    t = omega arith

module _ {K R : Type 0} {o : Kit K R} (I : StepsOf o) {x : Shape K R} {c : Known} {k : Name} {d : Data} {L : Path} {a m : Counts} (h : IsRead o x c k d L a m) where
  -- its cost is what reading it and the places inside cost, and what is counted later
  cost_split : (ms : Members) → IsKnown c ms k → owned I ms d (keyword_named o.world k) ⊕ summed I ms d k (keyword_named o.world k)
      ≡ (own_cost_of o.world d (keyword_named o.world k) ⊕ places_cost I (reads_of x) d) ⊕ later_cost I ms d (keyword_named o.world k)
  cost_split ms known = (λ i. own_of_keyword I ms d (keyword_named o.world k) i ⊕ places_summed I ms d c k known x h.shape h.fits i) ∙ last_two _ _ _

  pub refuses_part_inside : {r : ReadPlaces} {b : Counts} {e : BuildError} → r ≡ reads_of x → RefusesPlaces I r d L m b e → RefusesPart I c k d L a b e
  refuses_part_inside {b = b} {e} reads w ms P p known =
      let inside = subst (λ r. RefusesPlaces I r d L m b e) reads w in
      record {
        tells = tells_right (own_told I ms d k (P // k)) (found I ms d k P (keyword_named o.world k)) e
            (tells_same (ap (places_malformed I (reads_of x) d) p ∙ sym (places_found I ms d c k known x h.shape h.fits P)) e inside.tells);
        spends = within_same (sym (cost_split ms known)) (within_before a b _ (later_cost I ms d (keyword_named o.world k)) (within_after a m b _ _ h.spends inside.spends));
      }

module _ {K R N : Type 0} {o : Kit K R} {I : StepsOf o} {answers : N → Answers} where
  pub part_is_built : {p : Part K R N} {c : Known} {k : Name} {d : Data} {r : ReadPlaces} {a m b : Counts} → IsRead o p.shape c k d p.location a m → r ≡ reads_of p.shape
      → PlacesAreBuilt I answers r p.nodes.items d p.location m b → IsPart I answers p c k d p.location a b
  part_is_built {p} {c} {k} {d} {a = a} {m} {b} h reads w ms P e known =
      let built = subst (λ r. PlacesAreBuilt I answers r p.nodes.items d p.location m b) reads w in
      record {
        stand = (
          record {
            place = e;
            shape = h.shape;
            fits = fits_there I ms d c k known p.shape h.shape h.fits;
            nodes = subst (StandAt I answers (reads_of p.shape) p.nodes.items d) e built.stand;
          },
          tt,
        );
        clean = append-nil _ ∙ (λ i. (sym (own_is_told I ms d k (P // k)) ∙ ap (own_faults o.world k d) (sym e) ∙ h.clean) i
            ++ (places_found I ms d c k known p.shape h.shape h.fits P ∙ ap (places_malformed I (reads_of p.shape) d) (sym e) ∙ built.clean) i);
        spends = record {
          spent = own_cost_of o.world d (keyword_named o.world k) ⊕ places_cost I (reads_of p.shape) d;
          exactly = spends_append a m b _ _ h.spends built.spends;
          whole = sum_last _ ∙ cost_split I h ms known ∙ ap (λ z. (own_cost_of o.world d (keyword_named o.world k) ⊕ places_cost I (reads_of p.shape) d) ⊕ z) (sym (sum_last _));
        };
      }
