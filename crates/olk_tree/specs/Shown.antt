-- What validators show of a value at a path, over what their nodes show.
use Rattle.std.specs.Prelude.{Bool, true, false, not, cond, ◌==◌, nat_lt, codes, List, [], ◌∷◌, ◌++◌, map, count_by, Some, None, option_to_list}
use Rattle.std.specs.List.{flat_map}
use Rattle.serde_json.specs.Data.{Data, string}
use Rattle.olk_spec.specs.World.{Says}
use Rattle.olk_spec.specs.Names.{Name, Path, ◌//◌, lookup_name, filter_once, put_if, is_empty, is_among}
use Rattle.olk_spec.specs.Schemas.{is_object, members}
use Rattle.olk_spec.specs.Accepts.{missing}
use Rattle.olk_spec.specs.Reports.{required_faults}
use Rattle.olk_spec.specs.Tree.{Tree, Described, result, plain, erring}
use Rattle.olk_base.specs.declared.pattern.CompiledPattern.{CompiledPattern}
use Rattle.olk_tree.specs.Matched.{matched}

-- `required` inside another validator: one more child where a name is missing
abbrev pub missing_trees : List Name → Data → Path → Path → List Tree
missing_trees ns v P Q = put_if (not (is_empty (missing ns v))) (erring P Q (required_faults ns v P Q)) []

-- the own error of `oneOf`, where several branches accept
abbrev pub several_accept : Described
several_accept = (codes "oneOf", codes "more than one subschema succeeded", false)

module _ {N : Type 0} (t : N → Data → Path → Tree) (v : Data) (Q : Path) where
  -- the nodes at the members' names, member by member
  abbrev pub member_trees : List (Name × N) → List Tree
  member_trees es = flat_map (λ m. map (λ n. t n m.1 (Q // m.0)) (option_to_list (lookup_name m.0 es))) (members v)

  -- the members that are declared
  abbrev pub met_names : List (Name × N) → List Name
  met_names es = map (λ m. m.0) (filter_once (λ m. is_among m.0 (map (λ e. e.0) es)) (members v))

  -- annotated with the names that it met, where the value is an object
  abbrev pub properties_tree : Path → List (Name × N) → List Tree → Tree
  properties_tree P es more = result P Q (cond (is_object v) (Some (met_names es)) None) false [] (member_trees es ++ more)

  module _ {R : Type 0} (answers : R → Name → Says) (u : Bool) where
    -- the nodes of the patterns at the members whose names they match, pattern by pattern
    abbrev pub match_trees : List (CompiledPattern R × N) → List Tree
    match_trees es = flat_map (λ e. map (λ x. t e.1 x.1 (Q // x.0)) (matched answers u e.0 v)) es

    -- a name for each match
    abbrev pub match_names : List (CompiledPattern R × N) → List Name
    match_names es = flat_map (λ e. map (λ x. x.0) (matched answers u e.0 v)) es

    -- annotated with these, where the value is an object
    abbrev pub patterns_tree : Path → List (CompiledPattern R × N) → Tree
    patterns_tree P es = result P Q (cond (is_object v) (Some (match_names es)) None) false [] (match_trees es)

  abbrev pub branch_trees : List N → List Tree
  branch_trees ns = map (λ n. t n v Q) ns

  -- the node at the members' names, member by member
  abbrev pub name_trees : N → List Tree
  name_trees n = map (λ m. t n (string m.0) Q) (members v)

  -- the accepting branches; where there is none, all branches, invalid
  abbrev pub any_of_tree : (N → Bool) → Path → List N → Tree
  any_of_tree accepts P ns = cond (is_empty (filter_once accepts ns)) (result P Q None true [] (branch_trees ns)) (plain P Q (branch_trees (filter_once accepts ns)))

  -- the accepting branches, with an own error where they are several; where there is none, all branches, invalid
  abbrev pub one_of_tree : (N → Bool) → Path → List N → Tree
  one_of_tree accepts P ns = cond (count_by accepts ns == 0)
      (result P Q None true [] (branch_trees ns))
      (result P Q None false (put_if (nat_lt 1 (count_by accepts ns)) several_accept []) (branch_trees (filter_once accepts ns)))

  -- `if` beside what is asked where it accepts, or what is asked where it refuses
  abbrev pub if_tree : Bool → Path → N → List N → List N → Tree
  if_tree accepts P n thens elses = plain P Q (cond accepts (branch_trees (n ∷ thens)) (branch_trees elses))
