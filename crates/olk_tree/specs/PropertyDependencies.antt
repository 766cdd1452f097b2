-- `propertyDependencies`: what its validator answers.
use Rattle.std.specs.Prelude.{◌&&◌, List, ◌∷◌, option_to_list}
use Rattle.std.specs.List.{flat_map, list_all}
use Rattle.serde_json.specs.Data.{Data}
use Rattle.olk_spec.specs.Names.{Name, lookup_name}
use Rattle.olk_spec.specs.Schemas.{at, as_text}
use Rattle.olk_meaning.specs.Chosen.{property_dependencies_form}
use Rattle.olk_tree.specs.Answers.{AnswersOver}
use Rattle.olk_tree.specs.Each.{each_answers}
use Rattle.olk_tree.specs.Formed.{is_paired}
use Rattle.olk_tree.specs.Maps.{named, nodes_in}
use Rattle.olk_tree.specs.declared.map.SmallMap.{SmallMap}
use Rattle.olk_tree.specs.declared.property_dependencies.PropertyDependencies.{PropertyDependencies}

-- the node at the text that a value is, none or one
abbrev pub chosen_at : {N : Type 0} → SmallMap N → Data → List N
chosen_at m v = flat_map (λ t. option_to_list (lookup_name t (named m))) (as_text v)

-- the nodes at the texts that the members at the keys are
abbrev pub chosen_nodes : {N : Type 0} → List (Name × SmallMap N) → Data → List N
chosen_nodes es v = flat_map (λ e. flat_map (chosen_at e.1) (at e.0 v)) es

abbrev pub property_dependencies_answers : {N : Type 0} → PropertyDependencies N → AnswersOver N
property_dependencies_answers k = each_answers (chosen_nodes (named k.dependencies)) k.location
    (λ f. is_paired k.dependencies.names k.dependencies.nodes && list_all (λ m. is_paired m.names m.nodes && list_all f (nodes_in (named m))) (nodes_in (named k.dependencies)))
    (λ f. (k.location, property_dependencies_form) ∷ flat_map (λ m. flat_map f (nodes_in (named m))) (nodes_in (named k.dependencies)))
