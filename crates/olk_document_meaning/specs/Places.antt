-- What the places of a document answer, given what the places are that its references name.
use Rattle.std.specs.Prelude.{◌≡◌, ℕ, zero, suc, Bool, List, [], ◌++◌, drop, Option, option_to_list}
use Rattle.std.specs.List.{flat_map}
use Rattle.serde_json.specs.Data.{Data, string}
use Rattle.olk_spec.specs.Names.{Text, Name, Path, down}
use Rattle.olk_spec.specs.World.{World}
use Rattle.olk_spec.specs.Faults.{Fault}
use Rattle.olk_spec.specs.Costs.{Cost, cost_step, total_cost, one_place, ◌⊕◌}
use Rattle.olk_spec.specs.Schemas.{Part, Schema, truth, keywords, no_schema, answer_for, as_text}
use Rattle.olk_spec.proofs.Each.{Each}
use Rattle.olk_document_spec.specs.Documents.{place_named}
use Rattle.olk_document_spec.specs.Keywords.{Document_keyword, reference, document_keyword, beneath, Targets}
use Rattle.olk_document_spec.specs.Malformed.{document_places}
use Rattle.olk_meaning.specs.Chosen.{Placed, Standing, standing_step}

-- what the places are that texts name: what they mean, what is wrong there unless the text can't be followed, and which validators stand there; no matcher is asked about a name there
pub record Referred : Type 0 where
  pub means : Bool → Targets
  pub refuses : Text → Option (List Fault)
  pub stands : Text → List Placed
  pub of_a_name : (u : Bool) (n : Name) (t : Text) → Each (λ e. e.meaning.asks (string n) ≡ 0) (means u t)

-- ---- what is counted

-- each place that a keyword reads; the place that a reference names is built once, and counted there
abbrev pub document_cost : Name → Part Cost → Document_keyword → Cost
document_cost k p w = total_cost (λ r. r.0.answer) (document_places k p w)

abbrev pub document_cost_step : World → Schema Cost → Cost
document_cost_step W (truth b) = one_place
document_cost_step W (no_schema d) = one_place
document_cost_step W (keywords S) = cost_step (beneath W) (keywords S) ⊕ total_cost (λ m. document_cost m.0 m.1 (document_keyword m.0)) S

-- ---- which validators stand there: those of the layer and, behind them, those inside the document's keywords

module _ (F : Text → List Placed) where
  abbrev pub document_standing : Name → Part Standing → Path → Document_keyword → List Placed
  document_standing k p P reference = flat_map F (as_text p.whole.schema)
  document_standing k p P w = flat_map (λ r. r.0.answer (down P r.1)) (document_places k p w)

  abbrev pub document_standing_step : World → Schema Standing → Standing
  document_standing_step W (truth b) P = standing_step W (truth b) P
  document_standing_step W (no_schema d) P = []
  document_standing_step W (keywords S) P = standing_step (beneath W) (keywords S) P ++ flat_map (λ m. document_standing m.0 m.1 P (document_keyword m.0)) S

module _ (W : World) (D : Data) where
  -- those of a place that a text names, where references are followed so many times
  unfoldable pub standing_targets : ℕ → Text → List Placed
  standing_targets zero t = []
  standing_targets (suc n) t = flat_map (λ d. answer_for (document_standing_step (standing_targets n) W) d (drop 1 t)) (option_to_list (place_named D t))
