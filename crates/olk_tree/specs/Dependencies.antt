-- `dependentRequired`, `dependentSchemas` and `dependencies`: what their validator answers.
use Rattle.std.specs.Prelude.{◌&&◌, List, ◌∷◌, map}
use Rattle.std.specs.List.{list_all, flat_map}
use Rattle.serde_json.specs.Data.{Data}
use Rattle.olk_spec.specs.Names.{Name, Path, filter_once}
use Rattle.olk_spec.specs.Schemas.{has}
use Rattle.olk_meaning.specs.Chosen.{Form, dependencies_form, dependent_required_form, dependent_schemas_form}
use Rattle.olk_tree.specs.Answers.{AnswersOver}
use Rattle.olk_tree.specs.Each.{each_answers}
use Rattle.olk_tree.specs.Formed.{is_paired}
use Rattle.olk_tree.specs.Maps.{named, nodes_in}
use Rattle.olk_tree.specs.declared.dependencies.Dependencies.{Dependencies}
use Rattle.olk_tree.specs.declared.dependencies.DependentRequired.{DependentRequired}
use Rattle.olk_tree.specs.declared.dependencies.DependentSchemas.{DependentSchemas}
use Rattle.olk_tree.specs.declared.map.SmallMap.{SmallMap}

-- the nodes of the keys that are members
abbrev pub due_nodes : {N : Type 0} → List (Name × N) → Data → List N
due_nodes es v = map (λ e. e.1) (filter_once (λ e. has e.0 v) es)

module _ {N : Type 0} where
  -- each is asked of the whole object
  abbrev pub due_answers : Form → SmallMap N → Path → AnswersOver N
  due_answers w m P = each_answers (due_nodes (named m)) P (λ f. is_paired m.names m.nodes && list_all f (nodes_in (named m))) (λ f. (P, w) ∷ flat_map f (nodes_in (named m)))

  abbrev pub dependencies_answers : Dependencies N → AnswersOver N
  dependencies_answers k = due_answers dependencies_form k.dependencies k.location

  abbrev pub dependent_required_answers : DependentRequired N → AnswersOver N
  dependent_required_answers k = due_answers dependent_required_form k.dependencies k.location

  abbrev pub dependent_schemas_answers : DependentSchemas N → AnswersOver N
  dependent_schemas_answers k = due_answers dependent_schemas_form k.dependencies k.location
