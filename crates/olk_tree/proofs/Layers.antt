-- What stands at a place answers over the answers of the nodes below it what it answers over the nodes.
use Rattle.std.specs.Prelude.{◌≡◌, ◌==◌, nat_lt, length, [], ◌∷◌, Bool, true, not, ◌++◌, ◌||◌, ◌&&◌, map, Option, Some, None, is_some, option_map, List, Vec, bytes_eq, string_bytes}
use Rattle.std.specs.declared.alloc.Global.{Global}
use Rattle.std.specs.List.{flat_map, list_all, zip}
use Rattle.std.specs.formers.vec.Vec as vec
use Rattle.std.specs.Option.{option_map_or}
use Rattle.std.proofs.Common.{refl, ap, ◌∙◌}
use Rattle.std.proofs.lemmas.List.{length-map}
use Rattle.std.proofs.lemmas.List.Folds.{list_all-map}
use Rattle.serde_json.specs.Data.{Data}
use Rattle.olk_spec.specs.Names.{Name, Path, lookup_name, ◌//◌, is_empty}
use Rattle.olk_spec.specs.declared.TheConstants.{HASHMAP_THRESHOLD}
use Rattle.olk_spec.specs.Faults.{Fault, AnyOf, context}
use Rattle.olk_spec.specs.Schemas.{at}
use Rattle.olk_spec.specs.Accepts.{missing}
use Rattle.olk_spec.specs.Reports.{required_faults, fault_if}
use Rattle.olk_spec.specs.Tree.{Tree, plain}
use Rattle.olk_base.specs.Kit.{Kit}
use Rattle.olk_base.specs.declared.pattern.CompiledPattern.{CompiledPattern}
use Rattle.olk_tree.specs.Shown.{missing_trees, branch_trees, properties_tree}
use Rattle.olk_tree.specs.Questions.{Question, always, both, every, some, how_many}
use Rattle.olk_tree.specs.Maps.{named, keys_in, nodes_in, mapped, placed_entries, two_texts}
use Rattle.olk_tree.specs.Dependencies.{due_nodes}
use Rattle.olk_tree.specs.PropertyDependencies.{chosen_nodes}
use Rattle.olk_tree.specs.OneOf.{one_of_report}
use Rattle.olk_tree.specs.Additional.{Held, sides_of, patterns_in, required_text, required_place, lacks, has_neighbours, additional_means, additional_report, additional_first, additional_tree}
use Rattle.olk_tree.specs.Firsts.{or_else, head_of, first_of}
use Rattle.olk_tree.specs.Validators.{answers_of, validator_means, validator_report, validator_first, validator_tree, validator_formed, validator_forms}
use Rattle.olk_tree.specs.Bodies.{body_answers}
use Rattle.olk_meaning.specs.Chosen.{Placed, few as few_names, many as many_names, object_form, form_of_size, fused_properties_form, patterns_form, restriction_form, dependencies_form, dependent_required_form, dependent_schemas_form, property_dependencies_form, all_of_form, any_of_form, one_of_form}
use Rattle.olk_tree.specs.Formed.{is_paired, is_map_formed, size_of, names_beside, is_table_formed}
use Rattle.olk_tree.specs.Answers.{Answers, answered}
use Rattle.olk_tree.specs.declared.big_map.BigMap.{BigMap}
use Rattle.olk_tree.specs.Holdings.{held}
use Rattle.olk_tree.specs.declared.additional_properties.Restriction.{Restriction}
use Rattle.olk_tree.specs.declared.additional_properties.Restriction.TheVariants as by
use Rattle.olk_tree.specs.declared.properties_map.PropertiesMap.{PropertiesMap}
use Rattle.olk_tree.specs.declared.map.SmallMap.{SmallMap}
use Rattle.olk_tree.specs.declared.properties_map.PropertiesMap.TheVariants.{Small, Big}
use Rattle.olk_tree.specs.declared.node.KeywordOver.{KeywordOver}
use Rattle.olk_tree.specs.declared.node.KeywordOver.TheVariants as keyword
use Rattle.olk_tree.specs.declared.node.Body.{Body}
use Rattle.olk_tree.specs.declared.node.Body.TheVariants.{Keywords}
use Rattle.olk_spec.proofs.Maps.{flat_map-map, map-map}
use Rattle.olk_tree.proofs.AdditionalMaps.{Mapped, placed_entries-map, lookup_placed-map, additional_means-map, additional_report-map, additional_first-map, additional_tree-map}
use Rattle.olk_tree.proofs.Mapped.{map_mapped, maps_mapped, properties_mapped, entry_mapped, restriction_mapped, body_mapped}
use Rattle.olk_tree.proofs.Maps.{with_name, zip-map, keys_in-map, nodes_in-map, all-map, due_nodes-map, chosen_nodes-map, every-map, some-map, first_of-map, properties_tree-map, branch_trees-map, any_of_tree-map, one_of_tree-map, how_many-map, exactly_one-map, patterns_mean-map, patterns_report-map, patterns_first-map, patterns_tree-map}

-- x answers as a does
pub record AnswersAlike (x a : Answers) : Type 0 where
  pub verdict : (v : Data) → x.means v ≡ a.means v
  pub faults : (u : Bool) (v : Data) (Q : Path) → x.report u v Q ≡ a.report u v Q
  pub first : (u : Bool) (v : Data) (Q : Path) → x.first u v Q ≡ a.first u v Q
  pub evaluation : (u : Bool) (v : Data) (Q : Path) → x.tree u v Q ≡ a.tree u v Q
  pub place : x.location ≡ a.location
  pub formed : x.formed ≡ a.formed
  pub forms : x.forms ≡ a.forms

-- what a body answers at its place, over its nodes
abbrev pub place_answers : {K R N : Type 0} → Kit K R → (N → Answers) → Path → Body (KeywordOver K R N) → Answers
place_answers o answers P b = body_answers (λ k. answered answers (answers_of o k)) P b

-- what holds where there is no map, where it is of few names, and where it is of many
none_few_or_many : {N G : Type 0} (o : Option (PropertiesMap N)) → (o ≡ None → G) → ((s : SmallMap N) → o ≡ Some (Small s) → G) → ((b : BigMap N) → o ≡ Some (Big b) → G) → G
none_few_or_many None none few many = none refl
none_few_or_many (Some (Small m)) none few many = few m refl
none_few_or_many (Some (Big m)) none few many = many m refl

none_or_one : {X G : Type 0} (o : Option X) → (o ≡ None → G) → ((x : X) → o ≡ Some x → G) → G
none_or_one None none one = none refl
none_or_one (Some x) none one = one x refl

module _ {K R Node : Type 0} (o : Kit K R) (answers : Node → Answers) where
  abbrev NodeKeyword : Type 0
  NodeKeyword = KeywordOver K R Node

  -- what the nodes answer
  abbrev means : Node → Data → Question
  means n = (answers n).means

  abbrev finds : Node → Bool → Data → Path → List Fault
  finds n = (answers n).report

  abbrev finds_first : Node → Bool → Data → Path → List Fault
  finds_first n = (answers n).first

  abbrev shows : Node → Bool → Data → Path → Tree
  shows n = (answers n).tree

  abbrev is_formed : Node → Bool
  is_formed n = (answers n).formed

  -- what a validator holds, with the answers of its nodes in their place
  abbrev held_answered : Held R Node → Held R Answers
  held_answered h = record {
    properties = option_map (properties_mapped answers) h.properties;
    patterns = option_map (map (entry_mapped answers)) h.patterns;
    table = h.table;
    rest = option_map answers h.rest;
    required = h.required;
    location = h.location;
    patterns_location = h.patterns_location;
  }

  module _ (h : Held R Node) where
    sides_answer : Mapped answers (sides_of (held_answered h)) (sides_of h)
    sides_answer = record {
      declared = none_few_or_many h.properties (λ e. rw e refl) (λ m e. rw e (ap placed_entries (zip-map answers m.names m.nodes.items) ∙ placed_entries-map answers (zip m.names m.nodes.items))) (λ m e. rw e (ap placed_entries (zip-map answers m.names m.nodes.items) ∙ placed_entries-map answers (zip m.names m.nodes.items)));
      at = λ x. none_few_or_many h.properties (λ e. rw e refl) (λ m e. rw e (ap (λ es. lookup_name x (placed_entries es)) (zip-map answers m.names m.nodes.items) ∙ lookup_placed-map answers (zip m.names m.nodes.items) x)) (λ m e. rw e (ap (λ es. lookup_name x (placed_entries es)) (zip-map answers m.names m.nodes.items) ∙ lookup_placed-map answers (zip m.names m.nodes.items) x));
      patterns = none_or_one h.patterns (λ e. rw e refl) (λ ps e. rw e refl);
      known = refl;
      rest = none_or_one h.rest (λ e. rw e refl) (λ r e. rw e refl);
    }

    declares_alike : is_some (held_answered h).properties ≡ is_some h.properties
    declares_alike = none_or_one h.properties (λ e. rw e refl) (λ m e. rw e refl)

    matches_alike : is_some (held_answered h).patterns ≡ is_some h.patterns
    matches_alike = none_or_one h.patterns (λ e. rw e refl) (λ ps e. rw e refl)

    neighbours_alike : has_neighbours (held_answered h) ≡ has_neighbours h
    neighbours_alike = λ i. declares_alike i || matches_alike i

  is_answered : (k : Restriction R Node) → held (restriction_mapped answers k) ≡ held_answered (held k)
  is_answered (by.Schema k) = refl
  is_answered _ = refl

  -- the nodes that dependencies ask
  due_answered : (v : Data) (m : SmallMap Node) → due_nodes (named (map_mapped answers m)) v ≡ map answers (due_nodes (named m) v)
  due_answered v m = ap (λ es. due_nodes es v) (zip-map answers m.names m.nodes.items) ∙ due_nodes-map answers v (named m)

  chosen_answered : (v : Data) (m : SmallMap (SmallMap Node)) → chosen_nodes (named (maps_mapped answers m)) v ≡ map answers (chosen_nodes (named m) v)
  chosen_answered v m =
      ap (λ es. chosen_nodes es v) (zip-map (map_mapped answers) m.names m.nodes.items)
      ∙ chosen_nodes-map answers v (map_mapped answers) (λ s. zip-map answers s.names s.nodes.items) (named m)

  -- nodes, and nodes by names
  nodes_mean : (v : Data) (ns : List Node) → every (λ a. a.means v) (map answers ns) ≡ every (λ n. means n v) ns
  nodes_mean v ns = every-map _ _ answers (λ n. refl) ns

  entries_mean : (v : Data) (ks : List Name) (ns : List Node) → every (λ e. every e.1.means (at e.0 v)) (zip ks (map answers ns)) ≡ every (λ e. every (means e.1) (at e.0 v)) (zip ks ns)
  entries_mean v ks ns = ap (every _) (zip-map answers ks ns) ∙ every-map _ _ (with_name answers) (λ e. refl) (zip ks ns)

  some_alike : (v : Data) (ns : List Node) → some (λ a. a.means v) (map answers ns) ≡ some (λ n. means n v) ns
  some_alike v ns = some-map _ _ answers (λ n. refl) ns

  count_alike : (u : Bool) (v : Data) (ns : List Node) → how_many (λ a. a.means v) u (map answers ns) ≡ how_many (λ n. means n v) u ns
  count_alike u v ns = how_many-map (λ a. a.means v) (λ n. means n v) answers (λ n. refl) u ns

  reports_alike : (u : Bool) (v : Data) (Q : Path) (ns : List Node) → map (λ a. a.report u v Q) (map answers ns) ≡ map (λ n. finds n u v Q) ns
  reports_alike u v Q ns = map-map _ _ answers (λ n. refl) ns

  module _ (u : Bool) (v : Data) (Q : Path) where
    nodes_find : (ns : List Node) → flat_map (λ a. a.report u v Q) (map answers ns) ≡ flat_map (λ n. finds n u v Q) ns
    nodes_find ns = flat_map-map _ _ answers (λ n. refl) ns

    entries_find : (ks : List Name) (ns : List Node) → flat_map (λ e. flat_map (λ x. e.1.report u x (Q // e.0)) (at e.0 v)) (zip ks (map answers ns))
        ≡ flat_map (λ e. flat_map (λ x. finds e.1 u x (Q // e.0)) (at e.0 v)) (zip ks ns)
    entries_find ks ns = ap (flat_map _) (zip-map answers ks ns) ∙ flat_map-map _ _ (with_name answers) (λ e. refl) (zip ks ns)

    nodes_first : (ns : List Node) → first_of (λ a. a.first u v Q) (map answers ns) ≡ first_of (λ n. finds_first n u v Q) ns
    nodes_first ns = first_of-map _ _ answers (λ n. refl) ns

    entries_first : (ks : List Name) (ns : List Node) → first_of (λ e. first_of (λ x. e.1.first u x (Q // e.0)) (at e.0 v)) (zip ks (map answers ns))
        ≡ first_of (λ e. first_of (λ x. finds_first e.1 u x (Q // e.0)) (at e.0 v)) (zip ks ns)
    entries_first ks ns = ap (first_of _) (zip-map answers ks ns) ∙ first_of-map _ _ (with_name answers) (λ e. refl) (zip ks ns)

  means_layer : (P : Path) (b : Body NodeKeyword) (v : Data)
      → (place_answers o (λ a. a) P (body_mapped answers b)).means v ≡ (place_answers o answers P b).means v
  unfolding answers_of
  means_layer P (Keywords ks) v = every-map (λ k. validator_means o (λ a. a.means) k v) (λ k. validator_means o means k v) _ (elim [
    | keyword.SmallProperties k ↦ entries_mean v k.properties.names k.properties.nodes.items
    | keyword.BigProperties k ↦ entries_mean v k.properties.names k.properties.nodes.items
    | keyword.PropertiesWithRequired2 k ↦ ap (both (always (is_empty (missing (two_texts k.value.first k.value.second) v))))
        (entries_mean v k.value.properties.names k.value.properties.nodes.items)
    | keyword.AllOf k ↦ nodes_mean v k.schemas.items
    | keyword.AnyOf k ↦ some_alike v k.schemas.items
    | keyword.OneOf k ↦ exactly_one-map (λ a. a.means v) (λ n. means n v) answers (λ n. refl) k.schemas.items
    | keyword.Dependencies k ↦ ap (every (λ a. a.means v)) (due_answered v k.dependencies)
        ∙ nodes_mean v (due_nodes (named k.dependencies) v)
    | keyword.DependentRequired k ↦ ap (every (λ a. a.means v)) (due_answered v k.dependencies)
        ∙ nodes_mean v (due_nodes (named k.dependencies) v)
    | keyword.DependentSchemas k ↦ ap (every (λ a. a.means v)) (due_answered v k.dependencies)
        ∙ nodes_mean v (due_nodes (named k.dependencies) v)
    | keyword.PropertyDependencies k ↦ ap (every (λ a. a.means v)) (chosen_answered v k.dependencies)
        ∙ nodes_mean v (chosen_nodes (named k.dependencies) v)
    | keyword.PatternProperties k ↦ patterns_mean-map o.answers answers v o.costs (λ a. a.means) means (λ n w. refl) k.patterns.items
    | keyword.AdditionalProperties k ↦ ap (λ h. both (additional_means o.answers o.costs (λ a. a.means) (sides_of h) v) (always (is_empty (missing (required_text h.required) v))))
        (is_answered k) ∙ ap (λ q. both q (always (is_empty (missing (required_text (held k).required) v))))
        (additional_means-map answers o.answers (sides_answer (held k)) o.costs (λ a. a.means) means (λ y w. refl) v)
    | _ ↦ refl
  ]) ks.items
  means_layer P b v = refl

  finds_layer : (P : Path) (b : Body NodeKeyword) (u : Bool) (v : Data) (Q : Path)
      → (place_answers o (λ a. a) P (body_mapped answers b)).report u v Q ≡ (place_answers o answers P b).report u v Q
  unfolding answers_of
  finds_layer P (Keywords ks) u v Q =
      flat_map-map (λ k. validator_report o (λ a. a.means) (λ a. a.report) u k v Q) (λ k. validator_report o means finds u k v Q) _ (elim [
        | keyword.SmallProperties k ↦ entries_find u v Q k.properties.names k.properties.nodes.items
        | keyword.BigProperties k ↦ entries_find u v Q k.properties.names k.properties.nodes.items
        | keyword.PropertiesWithRequired2 k ↦ ap (λ fs. required_faults (two_texts k.value.first k.value.second) v k.value.required_location Q ++ fs)
            (entries_find u v Q k.value.properties.names k.value.properties.nodes.items)
        | keyword.AllOf k ↦ nodes_find u v Q k.schemas.items
        | keyword.AnyOf k ↦ λ i. fault_if (not ((some_alike v k.schemas.items i).accepts u))
            (AnyOf (context (reports_alike u v Q k.schemas.items i))) v k.location Q
        | keyword.OneOf k ↦ λ i. one_of_report (count_alike u v k.schemas.items i)
            (context (reports_alike u v Q k.schemas.items i)) v k.location Q
        | keyword.Dependencies k ↦ ap (flat_map (λ a. a.report u v Q)) (due_answered v k.dependencies)
            ∙ nodes_find u v Q (due_nodes (named k.dependencies) v)
        | keyword.DependentRequired k ↦ ap (flat_map (λ a. a.report u v Q)) (due_answered v k.dependencies)
            ∙ nodes_find u v Q (due_nodes (named k.dependencies) v)
        | keyword.DependentSchemas k ↦ ap (flat_map (λ a. a.report u v Q)) (due_answered v k.dependencies)
            ∙ nodes_find u v Q (due_nodes (named k.dependencies) v)
        | keyword.PropertyDependencies k ↦ ap (flat_map (λ a. a.report u v Q)) (chosen_answered v k.dependencies)
            ∙ nodes_find u v Q (chosen_nodes (named k.dependencies) v)
        | keyword.PatternProperties k ↦ patterns_report-map o.answers answers u v (λ a. a.report) finds (λ n w R. refl) Q k.patterns.items
        | keyword.AdditionalProperties k ↦ ap (λ h. additional_report o.answers (sides_of h) u v Q (has_neighbours h) h.location (λ a. a.report) ++ lacks h.required v Q)
            (is_answered k) ∙ ap (λ b. additional_report o.answers (sides_of (held_answered (held k))) u v Q b (held k).location (λ a. a.report) ++ lacks (held k).required v Q)
            (neighbours_alike (held k)) ∙ ap (λ fs. fs ++ lacks (held k).required v Q)
            (additional_report-map answers o.answers (sides_answer (held k)) u v Q (λ a. a.report) finds (λ y w R. refl) (has_neighbours (held k)) (held k).location)
        | _ ↦ refl
      ]) ks.items
  finds_layer P b u v Q = refl

  first_layer : (P : Path) (b : Body NodeKeyword) (u : Bool) (v : Data) (Q : Path)
      → (place_answers o (λ a. a) P (body_mapped answers b)).first u v Q ≡ (place_answers o answers P b).first u v Q
  unfolding answers_of
  first_layer P (Keywords ks) u v Q =
      first_of-map (λ k. validator_first o (λ a. a.means) (λ a. a.report) u (λ a. a.first) k v Q) (λ k. validator_first o means finds u finds_first k v Q) _ (elim [
        | keyword.SmallProperties k ↦ entries_first u v Q k.properties.names k.properties.nodes.items
        | keyword.BigProperties k ↦ entries_first u v Q k.properties.names k.properties.nodes.items
        | keyword.PropertiesWithRequired2 k ↦ ap (or_else (head_of (required_faults (two_texts k.value.first k.value.second) v k.value.required_location Q)))
            (entries_first u v Q k.value.properties.names k.value.properties.nodes.items)
        | keyword.AllOf k ↦ nodes_first u v Q k.schemas.items
        | keyword.AnyOf k ↦ λ i. fault_if (not ((some_alike v k.schemas.items i).accepts u))
            (AnyOf (context (reports_alike u v Q k.schemas.items i))) v k.location Q
        | keyword.OneOf k ↦ λ i. one_of_report (count_alike u v k.schemas.items i)
            (context (reports_alike u v Q k.schemas.items i)) v k.location Q
        | keyword.Dependencies k ↦ ap (first_of (λ a. a.first u v Q)) (due_answered v k.dependencies)
            ∙ nodes_first u v Q (due_nodes (named k.dependencies) v)
        | keyword.DependentRequired k ↦ ap (first_of (λ a. a.first u v Q)) (due_answered v k.dependencies)
            ∙ nodes_first u v Q (due_nodes (named k.dependencies) v)
        | keyword.DependentSchemas k ↦ ap (first_of (λ a. a.first u v Q)) (due_answered v k.dependencies)
            ∙ nodes_first u v Q (due_nodes (named k.dependencies) v)
        | keyword.PropertyDependencies k ↦ ap (first_of (λ a. a.first u v Q)) (chosen_answered v k.dependencies)
            ∙ nodes_first u v Q (chosen_nodes (named k.dependencies) v)
        | keyword.PatternProperties k ↦ patterns_first-map o.answers answers u v (λ a. a.first) finds_first (λ n w R. refl) Q k.patterns.items
        | keyword.AdditionalProperties k ↦ ap (λ h. or_else (additional_first o.answers (sides_of h) u v Q (has_neighbours h) h.location (λ a. a.first)) (lacks h.required v Q))
            (is_answered k) ∙ ap (λ b. or_else (additional_first o.answers (sides_of (held_answered (held k))) u v Q b (held k).location (λ a. a.first)) (lacks (held k).required v Q))
            (neighbours_alike (held k)) ∙ ap (λ fs. or_else fs (lacks (held k).required v Q))
            (additional_first-map answers o.answers (sides_answer (held k)) u v Q (λ a. a.first) finds_first (λ y w R. refl) (has_neighbours (held k)) (held k).location)
        | _ ↦ refl
      ]) ks.items
  first_layer P b u v Q = refl

  shows_layer : (P : Path) (b : Body NodeKeyword) (u : Bool) (v : Data) (Q : Path)
      → (place_answers o (λ a. a) P (body_mapped answers b)).tree u v Q ≡ (place_answers o answers P b).tree u v Q
  unfolding answers_of
  shows_layer P (Keywords ks) u v Q =
      let by_name = λ (P : Path) (ks : List Name) (ns : List Node) (more : List Tree). ap (λ es. properties_tree (λ (a : Answers). a.tree u) v Q P es more) (zip-map answers ks ns)
      ∙ properties_tree-map (λ (a : Answers). a.tree u) (λ n. shows n u) answers (λ y w R. refl) v Q P (zip ks ns) more in
      let branches = branch_trees-map (λ (a : Answers). a.tree u) (λ n. shows n u) answers (λ y w R. refl) v Q in
      let any_of = any_of_tree-map (λ (a : Answers). a.tree u) (λ n. shows n u) answers (λ y w R. refl) v Q (λ a. (a.means v).accepts u) (λ n. (means n v).accepts u) (λ n. refl) in
      let one_of = one_of_tree-map (λ (a : Answers). a.tree u) (λ n. shows n u) answers (λ y w R. refl) v Q (λ a. (a.means v).accepts u) (λ n. (means n v).accepts u) (λ n. refl) in
      ap (plain P Q) (map-map (λ k. validator_tree o (λ a. a.means) (λ a. a.tree) u k v Q) (λ k. validator_tree o means shows u k v Q) _ (elim [
        | keyword.SmallProperties k ↦ by_name k.location k.properties.names k.properties.nodes.items []
        | keyword.BigProperties k ↦ by_name k.location k.properties.names k.properties.nodes.items []
        | keyword.PropertiesWithRequired2 k ↦ by_name k.value.location k.value.properties.names k.value.properties.nodes.items (missing_trees (two_texts k.value.first k.value.second) v k.value.required_location Q)
        | keyword.AllOf k ↦ ap (plain k.location Q) (branches k.schemas.items)
        | keyword.AnyOf k ↦ any_of k.location k.schemas.items
        | keyword.SingleAnyOf k ↦ any_of k.location (k.node ∷ [])
        | keyword.OneOf k ↦ one_of k.location k.schemas.items
        | keyword.SingleOneOf k ↦ one_of k.location (k.node ∷ [])
        | keyword.Dependencies k ↦ ap (λ ns. plain k.location Q (branch_trees (λ a. a.tree u) v Q ns)) (due_answered v k.dependencies)
            ∙ ap (plain k.location Q) (branches (due_nodes (named k.dependencies) v))
        | keyword.DependentRequired k ↦ ap (λ ns. plain k.location Q (branch_trees (λ a. a.tree u) v Q ns)) (due_answered v k.dependencies)
            ∙ ap (plain k.location Q) (branches (due_nodes (named k.dependencies) v))
        | keyword.DependentSchemas k ↦ ap (λ ns. plain k.location Q (branch_trees (λ a. a.tree u) v Q ns)) (due_answered v k.dependencies)
            ∙ ap (plain k.location Q) (branches (due_nodes (named k.dependencies) v))
        | keyword.PropertyDependencies k ↦ ap (λ ns. plain k.location Q (branch_trees (λ a. a.tree u) v Q ns))
            (chosen_answered v k.dependencies) ∙ ap (plain k.location Q)
            (branches (chosen_nodes (named k.dependencies) v))
        | keyword.PatternProperties k ↦ patterns_tree-map o.answers answers u v (λ a. a.tree u) (λ n. shows n u) (λ n w R. refl) k.location Q k.patterns.items
        | keyword.AdditionalProperties k ↦ ap (λ h. additional_tree o.answers (sides_of h) u v Q (is_some h.properties) (is_some h.patterns) h.location h.patterns_location (λ a. a.tree u)
            (missing_trees (required_text h.required) v (required_place h.required) Q)) (is_answered k)
            ∙ (λ i. additional_tree o.answers (sides_of (held_answered (held k))) u v Q (declares_alike (held k) i)
            (matches_alike (held k) i) (held k).location (held k).patterns_location (λ a. a.tree u) (missing_trees (required_text (held k).required) v (required_place (held k).required) Q))
            ∙ additional_tree-map answers o.answers (sides_answer (held k)) u v Q (λ a. a.tree u) (λ n. shows n u) (λ y w R. refl)
            (is_some (held k).properties) (is_some (held k).patterns) (held k).location (held k).patterns_location (missing_trees (required_text (held k).required) v (required_place (held k).required) Q)
        | _ ↦ refl
      ]) ks.items)
  shows_layer P b u v Q = refl

  nodes_formed : (ns : List Node) → list_all (λ a. a.formed) (map answers ns) ≡ list_all is_formed ns
  nodes_formed ns = list_all-map (λ a. a.formed) answers ns

  entries_formed : (ks : List Name) (ns : List Node) → list_all (λ a. a.formed) (nodes_in (zip ks (map answers ns))) ≡ list_all is_formed (nodes_in (zip ks ns))
  entries_formed ks ns = ap (λ es. list_all (λ a. a.formed) (nodes_in es)) (zip-map answers ks ns) ∙ ap (list_all (λ a. a.formed)) (nodes_in-map answers (zip ks ns)) ∙ nodes_formed (nodes_in (zip ks ns))

  paired_alike : (ks : List Name) (ns : Vec Node Global) → is_paired ks (vec.mapped answers ns) ≡ is_paired ks ns
  paired_alike ks ns = ap (λ l. length ks == l) (length-map ns.items answers)

  paired_maps : (ks : List Name) (ms : Vec (SmallMap Node) Global) → is_paired ks (vec.mapped (map_mapped answers) ms) ≡ is_paired ks ms
  paired_maps ks ms = ap (λ l. length ks == l) (length-map ms.items (map_mapped answers))

  -- a map, and all at its names, have their form
  abbrev map_formed : {N : Type 0} → (N → Bool) → SmallMap N → Bool
  map_formed f m = is_paired m.names m.nodes && list_all f (nodes_in (named m))

  maps_formed : (m : SmallMap (SmallMap Node)) → list_all (map_formed (λ a. a.formed)) (nodes_in (named (maps_mapped answers m))) ≡ list_all (map_formed is_formed) (nodes_in (named m))
  maps_formed m =
      ap (λ es. list_all (map_formed (λ (a : Answers). a.formed)) (nodes_in es)) (zip-map (map_mapped answers) m.names m.nodes.items)
      ∙ ap (list_all (map_formed (λ (a : Answers). a.formed))) (nodes_in-map (map_mapped answers) (named m))
      ∙ all-map (map_formed (λ (a : Answers). a.formed)) (map_formed is_formed) (map_mapped answers)
      (λ s i. paired_alike s.names s.nodes i && entries_formed s.names s.nodes.items i) (nodes_in (named m))

  -- all that a validator holds has its form
  abbrev all_formed : {N : Type 0} → (N → Bool) → Held R N → Bool
  all_formed f k = option_map_or (λ m. is_map_formed m && list_all f (nodes_in (mapped m))) k.properties true
      && option_map_or (is_table_formed o.answers (names_beside k.properties) (map (λ e. e.0) (patterns_in k.patterns))) k.table true
      && list_all (λ e. f e.1) (patterns_in k.patterns)
      && option_map_or f k.rest true

  module _ (h : Held R Node) where
    names_alike : names_beside (held_answered h).properties ≡ names_beside h.properties
    names_alike = none_few_or_many h.properties (λ e. rw e refl) (λ m e. rw e (ap keys_in (zip-map answers m.names m.nodes.items) ∙ keys_in-map answers (zip m.names m.nodes.items))) (λ m e. rw e (ap keys_in (zip-map answers m.names m.nodes.items) ∙ keys_in-map answers (zip m.names m.nodes.items)))

    maps_alike : option_map_or (λ m. is_map_formed m && list_all (λ a. a.formed) (nodes_in (mapped m))) (held_answered h).properties true ≡ option_map_or
        (λ m. is_map_formed m && list_all is_formed (nodes_in (mapped m))) h.properties true
    maps_alike =
        none_few_or_many h.properties (λ e. rw e refl) (λ m e. rw e λ i. (nat_lt (length m.names) HASHMAP_THRESHOLD && paired_alike m.names m.nodes i) && entries_formed m.names m.nodes.items i)
        (λ m e. rw e λ i. (not (nat_lt (length m.names) HASHMAP_THRESHOLD) && paired_alike m.names m.nodes i) && entries_formed m.names m.nodes.items i)

    patterns_alike : map (λ e. e.0) (patterns_in (held_answered h).patterns) ≡ map (λ e. e.0) (patterns_in h.patterns)
    patterns_alike = none_or_one h.patterns (λ e. rw e refl) (λ es e. rw e (map-map (λ e. e.0) (λ e. e.0) (entry_mapped answers) (λ e. refl) es))

    matched_formed : list_all (λ e. e.1.formed) (patterns_in (held_answered h).patterns) ≡ list_all (λ e. is_formed e.1) (patterns_in h.patterns)
    matched_formed = none_or_one h.patterns (λ e. rw e refl) (λ es e. rw e (list_all-map (λ e. e.1.formed) (entry_mapped answers) es))

    rest_alike : option_map_or (λ a. a.formed) (held_answered h).rest true ≡ option_map_or is_formed h.rest true
    rest_alike = none_or_one h.rest (λ e. rw e refl) (λ r e. rw e refl)

    held_formed : all_formed (λ a. a.formed) (held_answered h) ≡ all_formed is_formed h
    held_formed = λ i. maps_alike i && option_map_or (is_table_formed o.answers (names_alike i) (patterns_alike i)) h.table true && matched_formed i && rest_alike i

  formed_layer : (P : Path) (b : Body NodeKeyword) → (place_answers o (λ a. a) P (body_mapped answers b)).formed ≡ (place_answers o answers P b).formed
  unfolding answers_of
  formed_layer P (Keywords ks) = all-map (λ k. validator_formed o (λ a. a.formed) k) (λ k. validator_formed o is_formed k) _ (elim [
    | keyword.SmallProperties k ↦ λ i. (nat_lt (length k.properties.names) HASHMAP_THRESHOLD && paired_alike k.properties.names k.properties.nodes i)
        && entries_formed k.properties.names k.properties.nodes.items i
    | keyword.BigProperties k ↦ λ i. (not (nat_lt (length k.properties.names) HASHMAP_THRESHOLD) && paired_alike k.properties.names k.properties.nodes i)
        && entries_formed k.properties.names k.properties.nodes.items i
    | keyword.PropertiesWithRequired2 k ↦ λ i. (nat_lt (length k.value.properties.names) HASHMAP_THRESHOLD && paired_alike k.value.properties.names k.value.properties.nodes i)
        && not (bytes_eq (string_bytes k.value.first) (string_bytes k.value.second)) && entries_formed k.value.properties.names k.value.properties.nodes.items i
    | keyword.AllOf k ↦ λ i. not (length-map k.schemas.items answers i == 1) && nodes_formed k.schemas.items i
    | keyword.AnyOf k ↦ λ i. not (length-map k.schemas.items answers i == 1) && nodes_formed k.schemas.items i
    | keyword.OneOf k ↦ λ i. not (length-map k.schemas.items answers i == 1) && nodes_formed k.schemas.items i
    | keyword.Dependencies k ↦ λ i. paired_alike k.dependencies.names k.dependencies.nodes i && entries_formed k.dependencies.names k.dependencies.nodes.items i
    | keyword.DependentRequired k ↦ λ i. paired_alike k.dependencies.names k.dependencies.nodes i && entries_formed k.dependencies.names k.dependencies.nodes.items i
    | keyword.DependentSchemas k ↦ λ i. paired_alike k.dependencies.names k.dependencies.nodes i && entries_formed k.dependencies.names k.dependencies.nodes.items i
    | keyword.PropertyDependencies k ↦ λ i. paired_maps k.dependencies.names k.dependencies.nodes i && maps_formed k.dependencies i
    | keyword.PatternProperties k ↦ λ i. not (length-map k.patterns.items (entry_mapped answers) i == 1) && list_all-map (λ e. e.1.formed) (entry_mapped answers) k.patterns.items i
    | keyword.AdditionalProperties k ↦ ap (all_formed (λ a. a.formed)) (is_answered k) ∙ held_formed (held k)
    | _ ↦ refl
  ]) ks.items
  formed_layer P b = refl

  -- ---- what stands there

  abbrev stand_in : Node → List Placed
  stand_in n = (answers n).forms

  abbrev placed_in : Answers → List Placed
  placed_in a = a.forms

  nodes_placed : (ns : List Node) → flat_map placed_in (map answers ns) ≡ flat_map stand_in ns
  nodes_placed ns = flat_map-map placed_in stand_in answers (λ n. refl) ns

  map_placed : (ks : List Name) (ns : List Node) → flat_map placed_in (nodes_in (zip ks (map answers ns))) ≡ flat_map stand_in (nodes_in (zip ks ns))
  map_placed ks ns = ap (λ es. flat_map placed_in (nodes_in es)) (zip-map answers ks ns) ∙ ap (flat_map placed_in) (nodes_in-map answers (zip ks ns)) ∙ nodes_placed (nodes_in (zip ks ns))

  abbrev of_map : {N : Type 0} → (N → List Placed) → SmallMap N → List Placed
  of_map f m = flat_map f (nodes_in (named m))

  maps_placed : (m : SmallMap (SmallMap Node)) → flat_map (of_map placed_in) (nodes_in (named (maps_mapped answers m))) ≡ flat_map (of_map stand_in) (nodes_in (named m))
  maps_placed m =
      ap (λ es. flat_map (of_map placed_in) (nodes_in es)) (zip-map (map_mapped answers) m.names m.nodes.items)
      ∙ ap (flat_map (of_map placed_in)) (nodes_in-map (map_mapped answers) (named m))
      ∙ flat_map-map (of_map placed_in) (of_map stand_in) (map_mapped answers) (λ s. map_placed s.names s.nodes.items) (nodes_in (named m))

  patterns_placed : (es : List (CompiledPattern R × Node)) → flat_map (λ e. placed_in e.1) (map (entry_mapped answers) es) ≡ flat_map (λ e. stand_in e.1) es
  patterns_placed es = flat_map-map (λ e. placed_in e.1) (λ e. stand_in e.1) (entry_mapped answers) (λ e. refl) es

  -- all that a validator holds
  abbrev held_placed : {N : Type 0} → (N → List Placed) → Held R N → List Placed
  held_placed f k = (k.location, restriction_form (is_some k.rest) (option_map size_of k.properties) (is_some k.patterns) (is_some k.required))
      ∷ option_map_or (λ m. flat_map f (nodes_in (mapped m))) k.properties [] ++ flat_map (λ e. f e.1) (patterns_in k.patterns) ++ option_map_or f k.rest []

  module _ (h : Held R Node) where
    size_alike : option_map size_of (held_answered h).properties ≡ option_map size_of h.properties
    size_alike = none_few_or_many h.properties (λ e. rw e refl) (λ m e. rw e refl) (λ m e. rw e refl)

    declared_placed : option_map_or (λ m. flat_map placed_in (nodes_in (mapped m))) (held_answered h).properties [] ≡ option_map_or (λ m. flat_map stand_in (nodes_in (mapped m))) h.properties []
    declared_placed = none_few_or_many h.properties (λ e. rw e refl) (λ m e. rw e (map_placed m.names m.nodes.items)) (λ m e. rw e (map_placed m.names m.nodes.items))

    matched_placed : flat_map (λ e. placed_in e.1) (patterns_in (held_answered h).patterns) ≡ flat_map (λ e. stand_in e.1) (patterns_in h.patterns)
    matched_placed = none_or_one h.patterns (λ e. rw e refl) (λ es e. rw e (patterns_placed es))

    rest_placed : option_map_or placed_in (held_answered h).rest [] ≡ option_map_or stand_in h.rest []
    rest_placed = none_or_one h.rest (λ e. rw e refl) (λ r e. rw e refl)

    rest_is_alike : is_some (held_answered h).rest ≡ is_some h.rest
    rest_is_alike = none_or_one h.rest (λ e. rw e refl) (λ r e. rw e refl)

    all_placed : held_placed placed_in (held_answered h) ≡ held_placed stand_in h
    all_placed = λ i. (h.location, restriction_form (rest_is_alike i) (size_alike i) (matches_alike h i) (is_some h.required)) ∷ declared_placed i ++ matched_placed i ++ rest_placed i

  forms_layer : (P : Path) (b : Body NodeKeyword) → (place_answers o (λ a. a) P (body_mapped answers b)).forms ≡ (place_answers o answers P b).forms
  unfolding answers_of
  forms_layer P (Keywords ks) = ap (λ l. (P, object_form) ∷ l) (flat_map-map (λ k. validator_forms o placed_in k) (λ k. validator_forms o stand_in k) _ (elim [
    | keyword.SmallProperties k ↦ ap (λ l. (k.location, form_of_size few_names) ∷ l) (map_placed k.properties.names k.properties.nodes.items)
    | keyword.BigProperties k ↦ ap (λ l. (k.location, form_of_size many_names) ∷ l) (map_placed k.properties.names k.properties.nodes.items)
    | keyword.PropertiesWithRequired2 k ↦ ap (λ l. (k.value.location, fused_properties_form) ∷ l) (map_placed k.value.properties.names k.value.properties.nodes.items)
    | keyword.AllOf k ↦ ap (λ l. (k.location, all_of_form) ∷ l) (nodes_placed k.schemas.items)
    | keyword.AnyOf k ↦ ap (λ l. (k.location, any_of_form) ∷ l) (nodes_placed k.schemas.items)
    | keyword.OneOf k ↦ ap (λ l. (k.location, one_of_form) ∷ l) (nodes_placed k.schemas.items)
    | keyword.Dependencies k ↦ ap (λ l. (k.location, dependencies_form) ∷ l) (map_placed k.dependencies.names k.dependencies.nodes.items)
    | keyword.DependentRequired k ↦ ap (λ l. (k.location, dependent_required_form) ∷ l) (map_placed k.dependencies.names k.dependencies.nodes.items)
    | keyword.DependentSchemas k ↦ ap (λ l. (k.location, dependent_schemas_form) ∷ l) (map_placed k.dependencies.names k.dependencies.nodes.items)
    | keyword.PropertyDependencies k ↦ ap (λ l. (k.location, property_dependencies_form) ∷ l) (maps_placed k.dependencies)
    | keyword.PatternProperties k ↦ ap (λ l. (k.location, patterns_form) ∷ l) (patterns_placed k.patterns.items)
    | keyword.AdditionalProperties k ↦ ap (held_placed placed_in) (is_answered k) ∙ all_placed (held k)
    | _ ↦ refl
  ]) ks.items)
  forms_layer P b = refl

  -- over the answers of its nodes it answers as over the nodes
  pub place_answers-map : (P : Path) (b : Body NodeKeyword) → AnswersAlike (place_answers o (λ a. a) P (body_mapped answers b)) (place_answers o answers P b)
  place_answers-map P b = record {
    verdict = means_layer P b;
    faults = finds_layer P b;
    first = first_layer P b;
    evaluation = shows_layer P b;
    place = refl;
    formed = formed_layer P b;
    forms = forms_layer P b;
  }
