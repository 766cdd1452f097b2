-- What `additionalProperties` asks for with all that it takes over, and where it is read.
use Rattle.std.proofs.Common.{◌≡◌, Bool, true, false, not, cond, ◌&&◌, ◌||◌, List, [], ◌∷◌, ◌++◌, map, sum_by, codes, Some, refl, sym, ◌∙◌, ap, append-nil, true≢false}
use Rattle.std.specs.List.{list_all, flat_map}
use Rattle.std.proofs.Math.Bool.{and-true, or-true}
use Rattle.serde_json.specs.Data.{Data, boolean, object, Members}
use Rattle.olk_spec.specs.Names.{Name, Path, ◌//◌, down, filter_once, put_if, is_empty}
use Rattle.olk_spec.specs.Schemas.{Schema, Sub, read, read_members, members, answer_for, is_object, is_truth, Keywords}
use Rattle.olk_spec.specs.Meanings.{Meaning, Asked, asked}
use Rattle.olk_spec.specs.Reports.{unexpected_faults, own}
use Rattle.olk_spec.proofs.Walks.{list_all-filter_once, neither}
use Rattle.olk_spec.proofs.Reading.{place, whole_read, schema_of_read}
use Rattle.olk_meaning.specs.Members.{member_accepts, member_asks, member_report, member_malformations}
use Rattle.olk_meaning.specs.AdditionalProperties.{declared_beside, patterns_beside, has_beside, is_other, other_members, rest_accepts, rest_report, rest_asks, others_report, is_rule}
use Rattle.olk_meaning.proofs.Conditions.{additional_read, neighbour_read, MeansNothing, restricted_read}
use Rattle.olk_meaning.proofs.Facts.{sum_of_none, sum_of_those, flat_map-filter_once, accepts_it, asks_it, finds_it, sum_by-map, nothing_last, accepts_no_object, asks_no_object}
use Rattle.std.proofs.lemmas.List.Folds.{list_all-map}
use Rattle.olk_meaning.proofs.Rows.{Rows}
use Rattle.olk_spec.specs.Faults.{Fault, MultipleTypes}
use Rattle.olk_spec.specs.Malformed.{own_refusals, read_places, places_where, itself, unless_kind}
use Rattle.olk_meaning.specs.Chosen.{restriction_standing}
use Rattle.olk_meaning.specs.Conditions.{is_restriction, is_restricted}
use Rattle.olk_spec.specs.{World.World, Vocabulary.additional_properties, Tree.Tree}
use Rattle.olk_spec.proofs.{Passing.flat_map-none, Maps.flat_map-map}
use Rattle.olk_spec.specs.Meaning.{meaning_step}
use Rattle.olk_meaning.specs.Steps.{Steps, accepts, asks, report, meaning, malformations_at}

-- ---- walks over what is asked where a test holds

one_of_each : {X Y : Type 0} (h : X → Y) (xs : List X) → flat_map (λ x. h x ∷ []) xs ≡ map h xs
one_of_each h [] = refl
one_of_each h (x ∷ xs) = ap (λ l. h x ∷ l) (one_of_each h xs)

-- none passes a test where each that passes would be refused
none_passes : {X : Type 0} (t : X → Bool) (xs : List X) → is_empty (filter_once t xs) ≡ list_all (λ x. not (t x) || false) xs
none_passes t [] = refl
none_passes t (x ∷ xs) = by (t x) (none_passes t xs)
  where
    by : (b : Bool) → is_empty (filter_once t xs) ≡ list_all (λ y. not (t y) || false) xs → is_empty (put_if b x (filter_once t xs)) ≡ ((not b || false) && list_all (λ y. not (t y) || false) xs)
    by true e = refl
    by false e = e

-- each passes where nothing is refused
pub each_passes : {X : Type 0} (t : X → Bool) (xs : List X) → true ≡ list_all (λ x. not (t x) || true) xs
each_passes t [] = refl
each_passes t (x ∷ xs) = each_passes t xs ∙ ap (λ b. b && list_all (λ y. not (t y) || true) xs) (sym (or-true _))

-- ---- the keyword itself

module _ {W : World} (I : Steps W) (ms : Members) (d : Data) (u : Bool) (v : Data) where
  -- a schema, with its parts' meanings, to its own
  abbrev to_meaning : Schema Meaning → Meaning
  to_meaning = I.means u

  abbrev fs : Rows
  fs = declared_beside ms

  abbrev es : Rows
  es = patterns_beside ms

  abbrev others : Rows
  others = other_members W u fs es v

  abbrev asked_of : Sub Meaning → Name × Data → Asked
  asked_of s x = asked s x.1 (codes "additionalProperties" ∷ []) (x.0 ∷ [])

  -- the members that it is asked about
  abbrev asked_by : Sub Meaning → Rows → List Asked
  asked_by s xs = flat_map (λ x. put_if (is_object s.schema) (asked_of s x) []) xs

  pub additional_accepts : member_accepts I ms (codes "additionalProperties", d) additional_properties u v ≡ list_all (rest_accepts I u fs es d) (members v)
  unfolding meaning
  additional_accepts = (λ i. list_all accepts_it (asked_by (whole_read to_meaning d i) (additional_read to_meaning ms W u v i))
      && (not (is_truth false (whole_read to_meaning d i).schema) || is_empty (additional_read to_meaning ms W u v i))) ∙ by d
    where
      allowing : list_all accepts_it (flat_map (λ x. []) others) && true ≡ list_all (λ x. not (is_other W u fs es x.0) || true) (members v)
      allowing = ap (λ l. list_all accepts_it l && true) (flat_map-none others) ∙ each_passes _ (members v)

      means_it : (d : Data) → is_object d ≡ false → list_all (λ x. not (is_other W u fs es x.0) || (answer_for (meaning_step W u) d).accepts x.1) (members v) ≡ list_all (rest_accepts I u fs es d) (members v)
      means_it d e = λ i. list_all (λ x. not (is_other W u fs es x.0) || sym (accepts_no_object I u d x.1 e) i) (members v)

      by : (d : Data) → (list_all accepts_it (asked_by (place to_meaning d) others) && (not (is_truth false d) || is_empty others)) ≡ list_all
          (rest_accepts I u fs es d) (members v)
      by (boolean false) = ap (λ l. list_all accepts_it l && is_empty others) (flat_map-none others) ∙ none_passes _ (members v) ∙ means_it (boolean false) refl
      by (object gs) =
          and-true _ ∙ ap (list_all accepts_it) (one_of_each (asked_of (place to_meaning (object gs))) others) ∙ list_all-map accepts_it (asked_of (place to_meaning (object gs))) others ∙ list_all-filter_once _ _ (members v)
      by d = allowing ∙ means_it d refl

  pub additional_asks : member_asks I ms (codes "additionalProperties", d) additional_properties u v ≡ sum_by (rest_asks I u fs es d) (members v)
  unfolding meaning
  additional_asks = nothing_last _ ∙ (λ i. sum_by asks_it (asked_by (whole_read to_meaning d i) (additional_read to_meaning ms W u v i))) ∙ by d
      ∙ sym (sum_of_those _ _ (members v))
    where
      nothing : sum_by asks_it (flat_map (λ x. []) others) ≡ sum_by (λ x. 0) others
      nothing = ap (sum_by asks_it) (flat_map-none others) ∙ sym (sum_of_none others)

      by : (d : Data) → sum_by asks_it (asked_by (place to_meaning d) others) ≡ sum_by (λ x. asks I u d x.1) others
      by (object gs) = ap (sum_by asks_it) (one_of_each (asked_of (place to_meaning (object gs))) others) ∙ sum_by-map asks_it (asked_of (place to_meaning (object gs))) others
      by d = nothing ∙ (λ i. sum_by (λ x. sym (asks_no_object I u d x.1 refl) i) others)

  pub own_others : (P Q : Path) → own W u (read_members to_meaning ms) (codes "additionalProperties")
      (read to_meaning d) v P Q additional_properties ≡ others_report W u fs es P Q (has_beside ms) d v
  own_others P Q =
      (λ i. flat_map (λ s. unexpected_faults (neighbour_read to_meaning ms i) (additional_read to_meaning ms W u v i) v (P // codes "additionalProperties") Q)
      (put_if (is_truth false (whole_read to_meaning d i).schema) (whole_read to_meaning d i) [])) ∙ by (is_truth false d)
    where
      by : (b : Bool) → flat_map (λ s. unexpected_faults (has_beside ms) others v (P // codes "additionalProperties") Q) (put_if b (place to_meaning d) []) ≡ cond b
          (unexpected_faults (has_beside ms) others v (P // codes "additionalProperties") Q) []
      by true = append-nil _
      by false = refl

  pub additional_report : (P Q : Path) → member_report I ms (codes "additionalProperties", d) additional_properties u v P Q ≡ flat_map (rest_report I u fs es P Q d) (members v)
      ++ others_report W u fs es P Q (has_beside ms) d v
  unfolding meaning
  additional_report P Q = (λ i. flat_map (finds_it P Q)
      (asked_by (whole_read to_meaning d i) (additional_read to_meaning ms W u v i)) ++ own_others P Q i)
      ∙ ap (λ l. l ++ others_report W u fs es P Q (has_beside ms) d v) (by (is_object d) ∙ flat_map-filter_once _ _ (members v))
    where
      by : (b : Bool) → flat_map (λ (a : Asked). a.sub.answer.report a.value (down P a.in_schema) (down Q a.in_instance)) (flat_map (λ x. put_if b (asked_of (place to_meaning d) x) []) others)
          ≡ flat_map (λ x. cond b (report I u d x.1 (P // codes "additionalProperties") (Q // x.0)) []) others
      by true = ap (flat_map (finds_it P Q)) (one_of_each (asked_of (place to_meaning d)) others) ∙ flat_map-map (finds_it P Q) _ (asked_of (place to_meaning d)) (λ x. refl) others
      by false = ap (flat_map _) (flat_map-none others) ∙ sym (flat_map-none others)

-- ---- what is wrong with `additionalProperties`, and the places that it reads; and that it means nothing where it allows every other member

module _ {X : Type 0} (step : Schema X → X) (d : Data) (k : Name) where
  pub additional_refusals : (W : World) (L : Path) → own_refusals W k (read step d) L additional_properties ≡ unless_kind (is_rule d) MultipleTypes d L
  additional_refusals W L = ap (λ s. unless_kind (is_rule s) MultipleTypes s L) (schema_of_read step d)

  -- itself, where it is an object
  pub additional_places : (S : Keywords X) → read_places k S (read step d) additional_properties ≡ places_where k (is_object d) (itself k (place step d))
  additional_places S = λ i. places_where k (is_object (whole_read step d i).schema) (itself k (whole_read step d i))

module _ {W : World} (I : Steps W) (ms : Members) (d : Data) where
  pub additional_malformations : (P : Path) → member_malformations I ms (codes "additionalProperties", d) additional_properties P
      ≡ unless_kind (is_rule d) MultipleTypes d (P // codes "additionalProperties") ++ cond (is_object d) (malformations_at I d (P // codes "additionalProperties")) []
  unfolding malformations_at
  additional_malformations P =
      (λ i. additional_refusals I.refuses d (codes "additionalProperties") W (P // codes "additionalProperties") i
      ++ flat_map (λ r. r.0.answer (down P r.1)) (additional_places I.refuses d (codes "additionalProperties") (read_members I.refuses ms) i))
      ∙ ap (λ fs. unless_kind (is_rule d) MultipleTypes d (P // codes "additionalProperties") ++ fs) (by (is_object d))
    where
      by : (b : Bool) → flat_map (λ r. r.0.answer (down P r.1)) (places_where (codes "additionalProperties") b
          (itself (codes "additionalProperties") (place I.refuses d))) ≡ cond b (malformations_at I d (P // codes "additionalProperties")) []
      by true = append-nil _
      by false = refl

-- ---- where it allows every other member

pub either_way : {X : Type 0} (b : Bool) (x : X) → cond b x x ≡ x
either_way true x = refl
either_way false x = refl

pub true_allows : (d : Data) → is_truth true d ≡ true → is_restriction (Some d) ≡ false
true_allows (boolean true) e = refl
true_allows d e = absurd (true≢false (sym e))

module _ {W : World} (I : Steps W) (ms : Members) (d : Data) (allows : is_restriction (Some d) ≡ false) where
  module _ (u : Bool) (v : Data) where
    abbrev declared : Rows
    declared = declared_beside ms

    abbrev patterned : Rows
    patterned = patterns_beside ms

    allowed : list_all (rest_accepts I u declared patterned d) (members v) ≡ true
    unfolding meaning
    allowed = by d allows
      where
        all : list_all (λ x. not (is_other W u declared patterned x.0) || true) (members v) ≡ true
        all = sym (each_passes _ (members v))

        by : (d : Data) → is_restriction (Some d) ≡ false → list_all (rest_accepts I u declared patterned d) (members v) ≡ true
        by (boolean false) e = absurd (true≢false e)
        by (object gs) e = absurd (true≢false e)
        by d e = (λ i. list_all (λ x. not (is_other W u declared patterned x.0) || accepts_no_object I u d x.1 refl i) (members v)) ∙ all

    nothing_asked : sum_by (rest_asks I u declared patterned d) (members v) ≡ 0
    unfolding meaning
    nothing_asked = by d allows
      where
        none : sum_by (λ x. cond (is_other W u declared patterned x.0) 0 0) (members v) ≡ 0
        none = (λ i. sum_by (λ (x : Name × Data). either_way (is_other W u declared patterned x.0) 0 i) (members v)) ∙ sum_of_none (members v)

        by : (d : Data) → is_restriction (Some d) ≡ false → sum_by (rest_asks I u declared patterned d) (members v) ≡ 0
        by (boolean false) e = absurd (true≢false e)
        by (object gs) e = absurd (true≢false e)
        by d e = (λ i. sum_by (λ x. cond (is_other W u declared patterned x.0) (asks_no_object I u d x.1 refl i) 0) (members v)) ∙ none

    nothing_found : (P Q : Path) → flat_map (rest_report I u declared patterned P Q d) (members v) ++ others_report W u declared patterned P Q (has_beside ms) d v ≡ []
    nothing_found P Q =
        let h = neither (is_truth false d) (is_object d) allows in
        (λ i. flat_map (λ (x : Name × Data). cond (is_other W u declared patterned x.0) (cond (h.1 i) (report I u d x.1 (P // codes "additionalProperties") (Q // x.0)) []) []) (members v)
        ++ cond (h.0 i) (unexpected_faults (has_beside ms) (other_members W u declared patterned v) v (P // codes "additionalProperties") Q) []) ∙ append-nil _
        ∙ (λ i. flat_map (λ (x : Name × Data). either_way {X = List Fault} (is_other W u declared patterned x.0) [] i) (members v)) ∙ flat_map-none (members v)

  -- it accepts everything, finds nothing, shows nothing and has no validator
  pub allowing_means_nothing : is_restricted ms ≡ false → MeansNothing I ms (codes "additionalProperties", d)
  allowing_means_nothing free = record {
    verdict = λ u v. additional_accepts I ms d u v ∙ allowed u v;
    report = λ u v P Q. additional_report I ms d u v P Q ∙ nothing_found u v P Q;
    child = λ u v P Q. shows_nothing _ _ (restricted_read (I.means u) ms ∙ free);
    stands = λ P. ap (λ b. cond b (restriction_standing (read_members I.stands ms) P (codes "additionalProperties") (read I.stands d)) []) (restricted_read I.stands ms ∙ free);
  }
    where
      shows_nothing : (b : Bool) (t : Tree) → b ≡ false → put_if b t [] ≡ []
      shows_nothing b t e = ap (λ c. put_if c t []) e
