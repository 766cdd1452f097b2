-- `propertyDependencies`, over the raw data of its entries.
use Rattle.olk_meaning.proofs.Facts.{total_cost-flat_map, at_entries, flat_map-flat_map, map-flat_map, told_by_entries}
use Rattle.std.proofs.Common.{◌≡◌, Bool, List, [], ◌∷◌, ◌++◌, map, codes, option_to_list, refl, sym, ◌∙◌, ap}
use Rattle.std.specs.List.{flat_map}
use Rattle.serde_json.specs.Data.{Data, Members}
use Rattle.olk_spec.specs.Names.{Name, Path, ◌//◌, down, lookup_name}
use Rattle.olk_spec.specs.{Vocabulary.property_dependencies, World.World}
use Rattle.olk_spec.specs.Schemas.{Schema, Keywords, read, read_members, members, Sub, at, as_text}
use Rattle.olk_spec.specs.Meanings.{applied, asked, Meaning, Asked}
use Rattle.olk_spec.specs.Malformed.{own_refusals, read_places, unless_object}
use Rattle.olk_spec.proofs.Maps.{flat_map-map, map-map}
use Rattle.olk_spec.proofs.Reading.{entry, place, entries_read, schema_of_read, inner_entry, inner_read}
use Rattle.olk_meaning.specs.Told.{IsKeywordTold, entries_told}
use Rattle.olk_spec.specs.Costs.{Cost, total_cost}
use Rattle.olk_spec.proofs.CostSums.{total_cost-map}
use Rattle.olk_meaning.specs.Steps.{Steps, malformations_at, cost}
use Rattle.olk_meaning.specs.PropertyDependencies.{chosen, choices, choice_answers}
use Rattle.std.proofs.lemmas.List.{map-append}

-- ---- the schemas that are asked

module _ (step : Schema Meaning → Meaning) (k : Name) (v : Data) where
  abbrev asked_of : Name → Name × Data → Asked
  asked_of n c = asked (place step c.1) v (k ∷ n ∷ c.0 ∷ []) []

  asked_at : (e : Name × Data) (ts : List Name) → flat_map (λ t. map (λ s. asked s v (k ∷ e.0 ∷ t ∷ []) []) (option_to_list (lookup_name t (map (entry step) (members e.1))))) ts ≡ map
      (asked_of e.0) (flat_map (λ t. map (λ s. (t, s)) (at t e.1)) ts)
  asked_at e [] = refl
  asked_at e (t ∷ ts) = (λ i. (ap (map (λ s. asked s v (k ∷ e.0 ∷ t ∷ []) [])) (at_entries step t (members e.1)) ∙ map-map (λ s. asked s v _ [])
      (λ s. asked_of e.0 (t, s)) (place step) (λ s. refl) (at t e.1) ∙ sym (map-map (asked_of e.0) _ _ (λ s. refl) (at t e.1))) i ++ asked_at e ts i)
      ∙ sym (map-append (asked_of e.0) _ _)

  asked_by : (e : Name × Data) → flat_map (λ t. map (λ s. asked s v (k ∷ e.0 ∷ t ∷ []) []) (option_to_list (lookup_name t (map (entry step) (members e.1)))))
      (flat_map as_text (at e.0 v)) ≡ map (asked_of e.0) (chosen v e)
  asked_by e = asked_at e _ ∙ ap (map (asked_of e.0)) (flat_map-flat_map as_text _ (at e.0 v))

  abbrev asked_choice : Name × Name × Data → Asked
  asked_choice c = asked (place step c.2) v (k ∷ c.0 ∷ c.1 ∷ []) []

  chosen_asked : (W : World) (u : Bool) (S : Keywords Meaning) (d : Data) → applied W u S k (read step d) v property_dependencies ≡ map asked_choice (choices (members d) v)
  chosen_asked W u S d = ap (flat_map _) (inner_read step d)
      ∙ flat_map-map _ (λ e. map asked_choice (map (λ c. (e.0, c.0, c.1)) (chosen v e))) (inner_entry step)
      (λ e. asked_by e ∙ sym (map-map asked_choice (asked_of e.0) (λ c. (e.0, c.0, c.1)) (λ c. refl) (chosen v e))) (members d)
      ∙ sym (map-flat_map (λ e. map (λ c. (e.0, c.0, c.1)) (chosen v e)) asked_choice (members d))

pub property_dependencies_told : {W : World} (I : Steps W) (ms : Members) (d : Data) → IsKeywordTold I ms (codes "propertyDependencies", d) property_dependencies (entries_told (choice_answers I) (choices (members d)))
property_dependencies_told {W} I ms d = told_by_entries I ms (codes "propertyDependencies", d) property_dependencies (λ c. c.2) (λ c. c.0 ∷ c.1 ∷ []) (choices (members d)) (λ u v. record {
  asked = chosen_asked (I.means u) (codes "propertyDependencies") v W u (read_members (I.means u) ms) d;
  wants = refl;
  asks = refl;
  finds = λ P Q. refl;
  shows = λ P Q. refl;
})

-- ---- what is wrong with it, and the places that it reads

module _ {X : Type 0} (step : Schema X → X) (d : Data) (k : Name) where
  pub property_dependencies_refusals : (W : World) (L : Path) → own_refusals W k (read step d) L property_dependencies ≡ unless_object d L ++ flat_map (λ e. unless_object e.1 (L // e.0)) (members d)
  property_dependencies_refusals W L =
      (λ i. unless_object (schema_of_read step d i) L ++ flat_map (λ e. unless_object e.1.schema (L // e.0)) (entries_read step d i))
      ∙ ap (λ fs. unless_object d L ++ fs) (flat_map-map _ _ (entry step) (λ e. refl) (members d))

  -- each entry of each entry
  abbrev pub inner_places : List (Sub X × List Name)
  inner_places = flat_map (λ e. map (λ c. (place step c.1, k ∷ e.0 ∷ c.0 ∷ [])) (members e.1)) (members d)

  pub property_dependencies_places : (S : Keywords X) → read_places k S (read step d) property_dependencies ≡ inner_places
  property_dependencies_places S = ap (flat_map _) (inner_read step d) ∙ flat_map-map _ _ (inner_entry step) (λ e. map-map _ _ _ (λ c. refl) _) (members d)

module _ {W : World} (I : Steps W) (d : Data) (k : Name) where
  pub inner_malformations : (P : Path) → flat_map (λ r. r.0.answer (down P r.1)) (inner_places I.refuses d k) ≡ flat_map
      (λ e. flat_map (λ c. malformations_at I c.1 (P // k // e.0 // c.0)) (members e.1)) (members d)
  unfolding malformations_at
  inner_malformations P = flat_map-flat_map _ _ (members d)
      ∙ (λ i. flat_map (λ e. flat_map-map (λ (r : Sub _ × List Name). r.0.answer (down P r.1)) (λ c. malformations_at I c.1 _)
      (λ c. (place I.refuses c.1, k ∷ e.0 ∷ c.0 ∷ [])) (λ c. refl) (members e.1) i) (members d))

  pub inner_costs : total_cost (λ r. r.0.answer) (inner_places I.costs d k) ≡ total_cost (λ e. total_cost (λ c. cost I c.1) (members e.1)) (members d)
  unfolding cost
  inner_costs = total_cost-flat_map _ (λ r. r.0.answer) (members d)
      ∙ (λ i. total_cost (λ e. total_cost-map (λ (r : Sub Cost × List Name). r.0.answer) (λ c. cost I c.1) (λ c. (place I.costs c.1, k ∷ e.0 ∷ c.0 ∷ []))
      (λ c. refl) (members e.1) i) (members d))
