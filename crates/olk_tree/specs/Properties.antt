-- `properties`, alone and with two names that are required: what its validators answer.
use Rattle.std.specs.Prelude.{◌≡◌, Bool, not, ◌&&◌, List, [], ◌∷◌, ◌++◌, bytes_eq, string_bytes}
use Rattle.std.specs.List.{flat_map, list_all}
use Rattle.serde_json.specs.Data.{Data}
use Rattle.olk_spec.specs.Names.{Name, Path, ◌//◌, is_empty}
use Rattle.olk_spec.specs.Faults.{Fault}
use Rattle.olk_spec.specs.Schemas.{at}
use Rattle.olk_spec.specs.Accepts.{missing}
use Rattle.olk_spec.specs.Reports.{required_faults}
use Rattle.olk_spec.proofs.Tree_verdicts.{none_missing}
use Rattle.olk_meaning.specs.Chosen.{form_of_size, fused_properties_form}
use Rattle.olk_tree.specs.Answers.{AnswersOver, Meanings, Findings, Agree}
use Rattle.olk_tree.specs.Emptiness.{each_agrees, both_agree, or_else_agrees, head_agrees, first_of_agrees}
use Rattle.olk_tree.specs.Firsts.{or_else, first_of, head_of}
use Rattle.olk_tree.specs.Formed.{is_map_formed, size_of}
use Rattle.olk_tree.specs.Maps.{named, nodes_in, mapped, two_texts}
use Rattle.olk_tree.specs.Questions.{Question, always, both, every}
use Rattle.olk_tree.specs.Shown.{properties_tree, missing_trees}
use Rattle.olk_tree.specs.declared.properties.SmallProperties.{SmallProperties}
use Rattle.olk_tree.specs.declared.properties.BigProperties.{BigProperties}
use Rattle.olk_tree.specs.declared.properties.SmallPropertiesWithRequired2.{SmallPropertiesWithRequired2}
use Rattle.olk_tree.specs.declared.properties_map.PropertiesMap.{PropertiesMap}
use Rattle.olk_tree.specs.declared.properties_map.PropertiesMap.TheVariants.{Small, Big}

-- each declared name that is a member, with its node
abbrev pub properties_mean : {N : Type 0} → Meanings N → List (Name × N) → Data → Question
properties_mean m es v = every (λ e. every (m e.1) (at e.0 v)) es

-- what the nodes of the declared names find at the members that have them
abbrev pub properties_report : {N : Type 0} → Findings N → Bool → List (Name × N) → Data → Path → List Fault
properties_report r u es v Q = flat_map (λ e. flat_map (λ x. r e.1 u x (Q // e.0)) (at e.0 v)) es

-- and at the first of these members that is refused
abbrev pub properties_first : {N : Type 0} → Findings N → Bool → List (Name × N) → Data → Path → List Fault
properties_first s u es v Q = first_of (λ e. first_of (λ x. s e.1 u x (Q // e.0)) (at e.0 v)) es

module _ {N : Type 0} (m : Meanings N) (r : Findings N) (u : Bool) (h : Agree m r u) where
  pub properties_agree : (es : List (Name × N)) (v : Data) (Q : Path) → is_empty (properties_report r u es v Q) ≡ (properties_mean m es v).accepts u
  properties_agree es v Q = each_agrees (λ e. flat_map (λ x. r e.1 u x (Q // e.0)) (at e.0 v)) (λ e. every (m e.1) (at e.0 v)) u (λ e. each_agrees (λ x. r e.1 u x (Q // e.0)) (m e.1) u (λ x. h e.1 x (Q // e.0)) (at e.0 v)) es

  pub properties_first_agrees : (es : List (Name × N)) (v : Data) (Q : Path) → is_empty (properties_first r u es v Q) ≡ (properties_mean m es v).accepts u
  properties_first_agrees es v Q = first_of_agrees (λ e. first_of (λ x. r e.1 u x (Q // e.0)) (at e.0 v)) (λ e. every (m e.1) (at e.0 v)) u (λ e. first_of_agrees (λ x. r e.1 u x (Q // e.0)) (m e.1) u (λ x. h e.1 x (Q // e.0)) (at e.0 v)) es

module _ {N : Type 0} where
  abbrev pub properties_answers : PropertiesMap N → Path → AnswersOver N
  properties_answers declared P = record {
    means = λ m v. properties_mean m (mapped declared) v;
    report = λ m r u v Q. properties_report r u (mapped declared) v Q;
    agrees = λ m r u h v Q. properties_agree m r u h (mapped declared) v Q;
    first = λ m r s u v Q. properties_first s u (mapped declared) v Q;
    first_agrees = λ m r s u h v Q. properties_first_agrees m s u h (mapped declared) v Q;
    tree = λ m t u v Q. properties_tree (λ n. t n u) v Q P (mapped declared) [];
    location = P;
    formed = λ f. is_map_formed declared && list_all f (nodes_in (mapped declared));
    forms = λ f. (P, form_of_size (size_of declared)) ∷ flat_map f (nodes_in (mapped declared));
  }

  abbrev pub small_properties_answers : SmallProperties N → AnswersOver N
  small_properties_answers k = properties_answers (Small k.properties) k.location

  abbrev pub big_properties_answers : BigProperties N → AnswersOver N
  big_properties_answers k = properties_answers (Big k.properties) k.location

  -- the names that are missing, and behind them what `properties` finds
  abbrev pub properties_with_required2_answers : SmallPropertiesWithRequired2 N → AnswersOver N
  properties_with_required2_answers k = record {
    means = λ m v. both (always (is_empty (missing (two_texts k.first k.second) v))) (properties_mean m (named k.properties) v);
    report = λ m r u v Q. required_faults (two_texts k.first k.second) v k.required_location Q ++ properties_report r u (named k.properties) v Q;
    agrees = λ m r u h v Q. both_agree (required_faults (two_texts k.first k.second) v k.required_location Q) (properties_report r u (named k.properties) v Q)
        (none_missing (two_texts k.first k.second) v k.required_location Q) (properties_agree m r u h (named k.properties) v Q);
    first = λ m r s u v Q. or_else (head_of (required_faults (two_texts k.first k.second) v k.required_location Q)) (properties_first s u (named k.properties) v Q);
    first_agrees = λ m r s u h v Q. or_else_agrees (head_of (required_faults (two_texts k.first k.second) v k.required_location Q)) (properties_first s u (named k.properties) v Q)
        (head_agrees (required_faults (two_texts k.first k.second) v k.required_location Q) (none_missing (two_texts k.first k.second) v k.required_location Q))
        (properties_first_agrees m s u h (named k.properties) v Q);
    tree = λ m t u v Q. properties_tree (λ n. t n u) v Q k.location (named k.properties) (missing_trees (two_texts k.first k.second) v k.required_location Q);
    location = k.location;
    formed = λ f. is_map_formed (Small k.properties) && not (bytes_eq (string_bytes k.first) (string_bytes k.second)) && list_all f (nodes_in (named k.properties));
    forms = λ f. (k.location, fused_properties_form) ∷ flat_map f (nodes_in (named k.properties));
  }
