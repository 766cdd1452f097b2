-- `additionalProperties`, with what it takes over: what its validator answers.
use Rattle.std.specs.Prelude.{⊤, [], ◌∷◌, None, Bool, true, false, ◌&&◌, ◌++◌, map, is_some, option_map}
use Rattle.std.specs.List.{list_all, flat_map}
use Rattle.std.proofs.Common.{refl}
use Rattle.std.specs.Option.{option_map_or}
use Rattle.olk_spec.specs.Names.{Name, is_empty}
use Rattle.olk_spec.specs.World.{Says, unmatched}
use Rattle.olk_spec.specs.Tree.{node, no_tree}
use Rattle.olk_spec.specs.Accepts.{missing}
use Rattle.olk_tree.specs.Additional.{Held, sides_of, patterns_in, has_neighbours, required_text, required_place, lacks, additional_means, additional_report, additional_first, additional_tree}
use Rattle.olk_tree.specs.AdditionalAgreement.{additional_agrees, additional_first_agrees}
use Rattle.olk_meaning.specs.Chosen.{restriction_form}
use Rattle.olk_tree.specs.Answers.{Answers, AnswersOver, answered}
use Rattle.olk_tree.specs.Firsts.{or_else}
use Rattle.olk_tree.specs.Formed.{is_map_formed, size_of, names_beside, is_table_formed}
use Rattle.olk_tree.specs.Maps.{mapped, nodes_in}
use Rattle.olk_tree.specs.Questions.{always, both}
use Rattle.olk_tree.specs.Shown.{missing_trees}

module _ {R N : Type 0} (answers : R → Name → Says) (costs : R → Bool) where
  abbrev pub additional_properties_answers : Held R N → AnswersOver N
  additional_properties_answers k = record {
    means = λ m v. both (additional_means answers costs m (sides_of k) v) (always (is_empty (missing (required_text k.required) v)));
    report = λ m r u v Q. additional_report answers (sides_of k) u v Q (has_neighbours k) k.location r ++ lacks k.required v Q;
    agrees = λ m r u h v Q. additional_agrees answers costs m u r h k v Q;
    first = λ m r s u v Q. or_else (additional_first answers (sides_of k) u v Q (has_neighbours k) k.location s) (lacks k.required v Q);
    first_agrees = λ m r s u h v Q. additional_first_agrees answers costs m u s h k v Q;
    tree = λ m t u v Q. additional_tree answers (sides_of k) u v Q (is_some k.properties) (is_some k.patterns) k.location k.patterns_location (λ n. t n u)
        (missing_trees (required_text k.required) v (required_place k.required) Q);
    location = k.location;
    formed = λ f. option_map_or (λ m. is_map_formed m && list_all f (nodes_in (mapped m))) k.properties true
        && option_map_or (is_table_formed answers (names_beside k.properties) (map (λ e. e.0) (patterns_in k.patterns))) k.table true
        && list_all (λ e. f e.1) (patterns_in k.patterns)
        && option_map_or f k.rest true;
    forms = λ f. (k.location, restriction_form (is_some k.rest) (option_map size_of k.properties) (is_some k.patterns) (is_some k.required))
        ∷ option_map_or (λ m. flat_map f (nodes_in (mapped m))) k.properties [] ++ flat_map (λ e. f e.1) (patterns_in k.patterns) ++ option_map_or f k.rest [];
  }

-- where no patterns stand, so that none is asked
abbrev pub unpatterned_answers : {N : Type 0} → Held ⊤ N → AnswersOver N
unpatterned_answers = additional_properties_answers (λ r n. unmatched) (λ r. false)

-- where no nodes stand
abbrev no_answers : ⊤ → Answers
no_answers n = record {
  means = λ v. always true;
  report = λ u v Q. [];
  agrees = λ u v Q. refl;
  first = λ u v Q. [];
  first_agrees = λ u v Q. refl;
  tree = λ u v Q. node [] Q true None [] no_tree;
  location = [];
  formed = true;
  forms = [];
}

abbrev pub false_answers : Held ⊤ ⊤ → Answers
false_answers k = answered no_answers (unpatterned_answers k)
