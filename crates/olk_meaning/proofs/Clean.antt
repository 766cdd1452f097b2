-- What is known of a schema object in which nothing is malformed.
use Rattle.std.proofs.Common.{◌≡◌, Bool, true, false, not, cond, ◌&&◌, ◌||◌, nat_lt, List, [], ◌∷◌, ◌++◌, map, length, codes, Option, Some, None, is_some, is_none, unwrap_or, option_to_list, bytes_eq}
use Rattle.std.proofs.Common.{ℕ, nat_eq, is_eq, Ordering, Less, Equal, Greater, refl, sym, ◌∙◌, ap, arith, suc, append-nil, true≢false}
use Rattle.std.specs.Prelude.{⊤}
use Rattle.std.specs.List.{flat_map, list_any}
use Rattle.serde_json.specs.Data.{Data, boolean, string, array, object, no_items, item, Members, null}
use Rattle.olk_spec.specs.Names.{Name, Path, ◌//◌, lookup_name, first_if_equal, is_empty}
use Rattle.olk_spec.specs.Schemas.{Schema, read_members, listed, members, texts, is_object, entries_at, names_at, Sub, is_truth, wholes_at}
use Rattle.olk_spec.specs.Malformed.{unless_array, unless_kind, not_a_text}
use Rattle.olk_spec.specs.Trees.{declares, has_patterns, fuses_two, are_two, fuses_one}
use Rattle.olk_spec.proofs.Reading.{entry, lookup_listed, is_present_read, entries_at_read, names_at_read, names_there, place, wholes_at_read}
use Rattle.olk_spec.proofs.Walks.{same_name}
use Rattle.olk_meaning.specs.Conditions.{is_restriction, is_restricted}
use Rattle.olk_meaning.specs.Fused.{declares_few, allows_others, two_names, fused_pair, refuses_others, one_name, fused_one}
use Rattle.olk_meaning.proofs.Claims.{listing, FusesOne, fuses_one_name}
use Rattle.olk_meaning.proofs.AdditionalProperties.{additional_malformations}
use Rattle.olk_meaning.proofs.Conditions.{restricted_read, present}
use Rattle.std.proofs.{lemmas.List.length-map, lemmas.Map.Text.is_eq-slice_cmp, lemmas.Bool.Decides.nat_tests}
use Rattle.olk_spec.specs.{World.World, Vocabulary.keyword_named, Faults.MultipleTypes, declared.TheConstants.HASHMAP_THRESHOLD}
use Rattle.olk_meaning.specs.Steps.{Steps}
use Rattle.olk_meaning.specs.{Members.member_malformations, AdditionalProperties.is_rule}
use Rattle.olk_meaning.proofs.Facts as fact

-- ---- which validators a schema object has, where nothing in it is malformed

pub nothing_in : {X : Type 0} (xs ys : List X) → xs ++ ys ≡ [] → (xs ≡ []) × (ys ≡ [])
nothing_in [] ys e = (refl, e)
nothing_in (x ∷ xs) ys e = absurd (true≢false (sym (ap is_empty e)))

-- ---- the two names, by what stands at `properties` and at `required`

abbrev IsObject : Option Data → Type 0
IsObject None = ⊤
IsObject (Some d) = is_object d ≡ true

abbrev IsRule : Option Data → Type 0
IsRule None = ⊤
IsRule (Some d) = is_rule d ≡ true

abbrev pub ListsTexts : Path → Option Data → Type 0
ListsTexts L None = ⊤
ListsTexts L (Some d) = unless_array d L ++ not_a_text d L ≡ []

are_two_names : (L : Path) (o : Option Data) → ListsTexts L o → are_two (flat_map texts (option_to_list o)) ≡ is_some (two_names o)
are_two_names L None h = refl
are_two_names L (Some (array no_items)) h = refl
are_two_names L (Some (array (item (string a) no_items))) h = refl
are_two_names L (Some (array (item (string a) (item (string b) no_items)))) h = by (bytes_eq a b)
  where
    by : (r : Bool) → not (r || false) ≡ is_some {T = Name × Name} (cond r None (Some (a, b)))
    by true = refl
    by false = refl
are_two_names L (Some (array (item (string a) (item (string b) (item (string c) ds))))) h = refl
are_two_names L (Some d) h = absurd (true≢false (sym (ap is_empty h)))

module _ {X : Type 0} (step : Schema X → X) where
  entry_count : (fs : Members) → length (flat_map (λ d. map (entry step) (members d)) (object fs ∷ [])) ≡ length (listed fs)
  entry_count fs = ap length (append-nil _) ∙ length-map (listed fs) (entry step)

  -- t is what stands at `patternProperties`, and c says whether other members are free
  are_fused_names : (L : Path) (p r t : Option Data) (c : Bool) → IsObject p → ListsTexts L r
      → (is_some p && c && not (is_some t) && nat_lt (length (flat_map (λ d. map (entry step) (members d)) (option_to_list p))) HASHMAP_THRESHOLD
      && are_two (flat_map texts (option_to_list r))) ≡ is_some (cond (declares_few p && is_none t && c) (two_names r) None)
  are_fused_names L None r t c h k = refl
  are_fused_names L (Some (object fs)) r None true h k = ap (λ n. nat_lt n HASHMAP_THRESHOLD && are_two (flat_map texts (option_to_list r))) (entry_count fs) ∙ by _
    where
      by : (b : Bool) → (b && are_two (flat_map texts (option_to_list r))) ≡ is_some (cond (b && true && true) (two_names r) None)
      by true = are_two_names L r k
      by false = refl
  are_fused_names L (Some (object fs)) r None false h k = by (nat_lt _ HASHMAP_THRESHOLD)
    where
      by : (b : Bool) → false ≡ is_some (cond (b && true && false) (two_names r) None)
      by true = refl
      by false = refl
  are_fused_names L (Some (object fs)) r (Some d) c h k = by (nat_lt _ HASHMAP_THRESHOLD) c
    where
      by : (b c : Bool) → (c && false && nat_lt (length (flat_map (λ d. map (entry step) (members d)) (object fs ∷ []))) HASHMAP_THRESHOLD
          && are_two (flat_map texts (option_to_list r))) ≡ is_some (cond (b && false && c) (two_names r) None)
      by true true = refl
      by true false = refl
      by false true = refl
      by false false = refl
  are_fused_names L (Some d) r t c h k = absurd (true≢false (sym h))

-- ---- an object in which nothing is malformed

module _ {W : World} (I : Steps W) (ms : Members) (P : Path) where
  clean_among : (es : List (Name × Data)) → flat_map (λ m. member_malformations I ms m (keyword_named W m.0) P) es ≡ [] → (k : Name) (d : Data)
      → lookup_name k es ≡ Some d → member_malformations I ms (k, d) (keyword_named W k) P ≡ []
  clean_among [] e k d f = absurd (true≢false (sym (ap is_some f)))
  clean_among (m ∷ es) e k d f =
      let h = nothing_in _ _ e in
      by _ (is_eq-slice_cmp k m.0) f h.0 (clean_among es h.1 k d)
    where
      by : (o : Ordering) → is_eq o ≡ bytes_eq k m.0 → first_if_equal o m.1 (lookup_name k es) ≡ Some d → member_malformations I ms m (keyword_named W m.0) P ≡ []
          → (lookup_name k es ≡ Some d → member_malformations I ms (k, d) (keyword_named W k) P ≡ []) → member_malformations I ms (k, d) (keyword_named W k) P ≡ []
      by Less q g h rest = rest g
      by Greater q g h rest = rest g
      by Equal q g h rest = let same = same_name k m.0 (sym q) in (λ i. member_malformations I ms (same i, unwrap_or (sym g i) d) (keyword_named W (same i)) P) ∙ h

module _ {W : World} (I : Steps W) (ms : Members) (P : Path) (clean : flat_map (λ m. member_malformations I ms m (keyword_named W m.0) P) (listed ms) ≡ []) where
  abbrev at_name : Name → Option Data
  at_name k = lookup_name k (listed ms)

  an_object : IsObject (at_name (codes "properties"))
  an_object = by (at_name (codes "properties")) refl
    where
      of : (d : Data) (b : Bool) → is_object d ≡ b → at_name (codes "properties") ≡ Some d → is_object d ≡ true
      of d true e q = e
      of d false e q = absurd (true≢false (ap is_empty (sym (clean_among I ms P (listed ms) clean (codes "properties") d q) ∙ fact.properties_kind I ms P d e)))

      by : (o : Option Data) → at_name (codes "properties") ≡ o → IsObject o
      by None q = tt
      by (Some d) q = of d _ refl q

  -- a rule for other members is an object, true or false
  is_rule_there : IsRule (at_name (codes "additionalProperties"))
  is_rule_there = by (at_name (codes "additionalProperties")) refl
    where
      refused : (d : Data) → at_name (codes "additionalProperties") ≡ Some d → is_rule d ≡ false → unless_kind (is_rule d) MultipleTypes d (P // codes "additionalProperties") ≡ []
      refused d q e = (nothing_in _ _
          (sym (additional_malformations I ms d P) ∙ clean_among I ms P (listed ms) clean (codes "additionalProperties") d q)).0

      of : (d : Data) (b : Bool) → at_name (codes "additionalProperties") ≡ Some d → is_rule d ≡ b → b ≡ true
      of d true q e = refl
      of d false q e = absurd (true≢false (ap is_empty (sym (refused d q e) ∙ ap (λ b. unless_kind b MultipleTypes d (P // codes "additionalProperties")) e)))

      by : (o : Option Data) → at_name (codes "additionalProperties") ≡ o → IsRule o
      by None q = tt
      by (Some d) q = of d _ q refl

  pub others_free : not (is_restricted ms) ≡ allows_others (at_name (codes "additionalProperties"))
  others_free = by (at_name (codes "additionalProperties")) is_rule_there
    where
      by : (o : Option Data) → IsRule o → not (is_restriction o) ≡ allows_others o
      by None h = refl
      by (Some (boolean true)) h = refl
      by (Some (boolean false)) h = refl
      by (Some (object fs)) h = refl
      by (Some d) h = absurd (true≢false (sym h))

  pub texts_listed : ListsTexts (P // codes "required") (at_name (codes "required"))
  texts_listed = by (at_name (codes "required")) refl
    where
      by : (o : Option Data) → at_name (codes "required") ≡ o → ListsTexts (P // codes "required") o
      by None q = tt
      by (Some d) q = sym (fact.required_malformations I ms d P) ∙ clean_among I ms P (listed ms) clean (codes "required") d q

  module _ {X : Type 0} (step : Schema X → X) where
    patterned : has_patterns (read_members step ms) ≡ is_some (at_name (codes "patternProperties"))
    patterned = is_present_read step ms (codes "patternProperties") ∙ ap is_some (sym (lookup_listed (codes "patternProperties") ms))

    -- it is fused exactly where the plan fuses names
    pub fused : fuses_two (read_members step ms) ≡ is_some (fused_pair ms)
    fused =
        (λ i. here i && (ap not (restricted_read step ms) ∙ others_free) i && not (patterned i) && nat_lt (length (entries i)) HASHMAP_THRESHOLD && are_two (listed_names i))
        ∙ are_fused_names step _ _ _ _ _ an_object texts_listed
      where
        here : declares (read_members step ms) ≡ is_some (at_name (codes "properties"))
        here = is_present_read step ms (codes "properties") ∙ ap is_some (sym (lookup_listed (codes "properties") ms))

        entries : entries_at (read_members step ms) (codes "properties") ≡ flat_map (λ d. map (entry step) (members d)) (option_to_list (at_name (codes "properties")))
        entries = entries_at_read step ms (codes "properties") ∙ ap (λ o. flat_map (λ d. map (entry step) (members d)) (option_to_list o)) (sym (lookup_listed (codes "properties") ms))

        listed_names : names_at (read_members step ms) (codes "required") ≡ flat_map texts (option_to_list (at_name (codes "required")))
        listed_names = names_at_read step ms (codes "required") ∙ ap (λ o. flat_map texts (option_to_list o)) (sym (lookup_listed (codes "required") ms))

pub names_fused : {X : Type 0} (step : Schema X → X) (ms : Members) (t : Name × Name) → lookup_name (codes "required") (listed ms) ≡ Some (listing t)
    → names_at (read_members step ms) (codes "required") ≡ t.0 ∷ t.1 ∷ []
names_fused step ms t e = names_there step ms (codes "required") (listing t) (sym (lookup_listed (codes "required") ms) ∙ e)

-- ---- when `additionalProperties` takes over `required`, by the definitions and by the plan

two_or_more : (n : ℕ) → nat_eq (suc (suc n)) 1 ≡ false
two_or_more n = grind (arith, nat_tests)

module _ {X : Type 0} (step : Schema X → X) (ms : Members) where
  -- `additionalProperties` is false
  closed_read : list_any (λ s. is_truth false s.schema) (wholes_at (read_members step ms) (codes "additionalProperties")) ≡ refuses_others (lookup_name (codes "additionalProperties") (listed ms))
  closed_read =
      ap (list_any (λ s. is_truth false s.schema)) (wholes_at_read step ms (codes "additionalProperties") ∙ ap (λ o. map (place step) (option_to_list o))
      (sym (lookup_listed (codes "additionalProperties") ms))) ∙ by (lookup_name (codes "additionalProperties") (listed ms))
    where
      by : (o : Option Data) → list_any (λ (s : Sub X). is_truth false s.schema) (map (place step) (option_to_list o)) ≡ refuses_others o
      by None = refl
      by (Some null) = refl
      by (Some (boolean true)) = refl
      by _ = refl

  listed_read : names_at (read_members step ms) (codes "required") ≡ flat_map texts (option_to_list (lookup_name (codes "required") (listed ms)))
  listed_read = names_at_read step ms (codes "required") ∙ ap (λ o. flat_map texts (option_to_list o)) (sym (lookup_listed (codes "required") ms))

  fuses_one_read : fuses_one (read_members step ms) ≡ (is_some (lookup_name (codes "properties") (listed ms)) && refuses_others (lookup_name (codes "additionalProperties") (listed ms))
      && not (is_some (lookup_name (codes "patternProperties") (listed ms))) && nat_eq (length (flat_map texts (option_to_list (lookup_name (codes "required") (listed ms))))) 1)
  fuses_one_read = λ i. present step ms (codes "properties") i && closed_read i && not (present step ms (codes "patternProperties") i) && nat_eq (length (listed_read i)) 1

  -- what the plan fuses is fused, and it is the name that is listed
  module _ (n : Name) (e : fused_one ms ≡ Some n) where
    abbrev fusing : FusesOne ms n
    fusing = fuses_one_name ms n e

    pub fused_reads : fuses_one (read_members step ms) ≡ true
    fused_reads = fuses_one_read ∙ (λ i. fusing.declared i && refuses_others (fusing.closed i) && not (is_some (fusing.unpatterned i))
        && nat_eq (length (flat_map texts (option_to_list (fusing.listed_at i)))) 1)

    pub fused_names_read : names_at (read_members step ms) (codes "required") ≡ n ∷ []
    fused_names_read = names_there step ms (codes "required") (array _) (sym (lookup_listed (codes "required") ms) ∙ fusing.listed_at)

  -- where `required` lists texts alone, nothing else is
  pub one_fused : (L : Path) → ListsTexts L (lookup_name (codes "required") (listed ms)) → fuses_one (read_members step ms) ≡ is_some (fused_one ms)
  one_fused L h = fuses_one_read ∙ by (is_some _) (refuses_others _) _ _ h
    where
      one : (o : Option Data) → ListsTexts L o → nat_eq (length (flat_map texts (option_to_list o))) 1 ≡ is_some (one_name o)
      one None k = refl
      one (Some (array no_items)) k = refl
      one (Some (array (item (string a) no_items))) k = refl
      one (Some (array (item (string a) (item (string b) ds)))) k = two_or_more _
      one (Some d) k = absurd (true≢false (sym (ap is_empty k)))

      by : (p c : Bool) (t r : Option Data) → ListsTexts L r → (p && c && not (is_some t) && nat_eq (length (flat_map texts (option_to_list r))) 1) ≡ is_some
          (cond (p && is_none t && c) (one_name r) None)
      by true true None r k = one r k
      by true false None r k = refl
      by _ _ _ r k = refl

-- so in an object in which nothing is malformed
pub clean_one_fused : {W : World} (I : Steps W) (ms : Members) (P : Path) → flat_map (λ m. member_malformations I ms m (keyword_named W m.0) P) (listed ms) ≡ []
    → {X : Type 0} (step : Schema X → X) → fuses_one (read_members step ms) ≡ is_some (fused_one ms)
clean_one_fused I ms P clean step = one_fused step ms (P // codes "required") (texts_listed I ms P clean)
