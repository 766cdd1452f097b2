-- Which trees are the tree of a schema over a value: no path, validity, annotation, error or text may be left out or be another, but a leaf's texts stand in any order, and a text that prints a fraction may be any text.
use Rattle.std.specs.Prelude.{◌≡◌, Bool, true, false, not, List, [], ◌∷◌, map, codes, Option, Some, None, IsPermutation}
use Rattle.std.specs.List.{list_all}
use Rattle.serde_json.specs.Data.{Data}
use Rattle.olk_spec.specs.Names.{Text, Name, Path, is_empty}
use Rattle.olk_spec.specs.World.{World}
use Rattle.olk_spec.specs.Bench.{bench}
use Rattle.olk_spec.specs.Json.{json}
use Rattle.olk_spec.specs.Tree.{Tree, node, leaf_node, Trees, no_tree, and_tree, trees_from, Described, IsLikeTree, is_valid, annotations, errors}
use Rattle.olk_spec.specs.Meaning.{tree, IsTree}

-- every tree of a schema has the validity and the annotations that the definition gives
abbrev pub One_validity : Type 0
One_validity = (W : World) (u : Bool) (S v : Data) (P Q : Path) (t : Tree) → IsTree W u S v P Q t → is_valid t ≡ is_valid (tree W u S v P Q)

abbrev pub One_list_of_annotations : Type 0
One_list_of_annotations = (W : World) (u : Bool) (S v : Data) (P Q : Path) (t : Tree) → IsTree W u S v P Q t → annotations t ≡ annotations (tree W u S v P Q)

-- a tree with its own errors counted, and neither their keywords nor their texts
abbrev pub counted : List Described → List Described
counted es = map (λ e. ([], [], false)) es

abbrev mutual
  pub frame : Tree → Tree
  frame (node P Q b a es ts) = node P Q b a (counted es) (frames ts)
  frame (leaf_node P Q es) = node P Q (is_empty es) None (counted es) no_tree

  pub frames : Trees → Trees
  frames no_tree = no_tree
  frames (and_tree t ts) = and_tree (frame t) (frames ts)

-- every tree of a schema has the same nodes in the same order, each with the same paths, validity and annotation, and with as many own errors
abbrev pub One_frame : Type 0
One_frame = (W : World) (u : Bool) (S v : Data) (P Q : Path) (t : Tree) → IsTree W u S v P Q t → frame t ≡ frame (tree W u S v P Q)

abbrev pub error_keyword : Path × Path × Described → Path × Path × Name
error_keyword e = (e.0, e.1, e.2.0)

abbrev pub error_text : Path × Path × Described → Path × Path × Name × Text
error_text e = (e.0, e.1, e.2.0, e.2.1)

-- every tree of a schema has errors of the same keywords at the same paths
abbrev pub One_list_of_keywords : Type 0
One_list_of_keywords = (W : World) (u : Bool) (S v : Data) (P Q : Path) (t : Tree) → IsTree W u S v P Q t → IsPermutation (map error_keyword (errors t)) (map error_keyword (errors (tree W u S v P Q)))

-- and with the same texts, where no text prints a fraction
abbrev pub One_list_of_texts : Type 0
One_list_of_texts =
    (W : World) (u : Bool) (S v : Data) (P Q : Path) (t : Tree) → list_all (λ e. not e.2.2) (errors (tree W u S v P Q)) ≡ true → IsTree W u S v P Q t
    → IsPermutation (map error_text (errors t)) (map error_text (errors (tree W u S v P Q)))

-- ---- a declared name that is met

abbrev pub declared : Data
declared = json "{\"properties\":{\"a\":{}}}"

abbrev pub met : Data
met = json "{\"a\":1}"

-- a tree with this annotation, and the member's node at this instance path
abbrev pub met_tree : Option (List Name) → Path → Tree
met_tree a Q = node [] [] true None [] (trees_from (node (codes "/properties") [] true a [] (trees_from (node (codes "/properties/a") Q true None [] no_tree ∷ [])) ∷ []))

abbrev pub IsMetTree : Bool → Option (List Name) → Path → Type 0
IsMetTree u a Q = IsTree bench u declared met [] [] (met_tree a Q)

abbrev pub Names_are_shown : Type 0
Names_are_shown = (u : Bool) → IsMetTree u (Some (codes "a" ∷ [])) (codes "/a")

abbrev pub Without_its_names_it_is_no_tree : Type 0
Without_its_names_it_is_no_tree = (u : Bool) → ¬ (IsMetTree u None (codes "/a"))

abbrev pub At_another_member_it_is_no_tree : Type 0
At_another_member_it_is_no_tree = (u : Bool) → ¬ (IsMetTree u (Some (codes "a" ∷ [])) [])

-- ---- a negation that refuses

abbrev pub refused_tree : List Described → Tree
refused_tree es = node [] [] false None [] (trees_from (node (codes "/not") [] false None es no_tree ∷ []))

abbrev pub IsRefusedTree : Bool → List Described → Type 0
IsRefusedTree u es = IsTree bench u (json "{\"not\":true}") (json "1") [] [] (refused_tree es)

abbrev pub not_error : Text → List Described
not_error t = (codes "not", t, false) ∷ []

abbrev pub Errors_are_told : Type 0
Errors_are_told = (u : Bool) → IsRefusedTree u (not_error (codes "true is not allowed for 1"))

abbrev pub With_another_text_it_is_no_tree : Type 0
With_another_text_it_is_no_tree = (u : Bool) → ¬ (IsRefusedTree u (not_error []))

abbrev pub Without_its_error_it_is_no_tree : Type 0
Without_its_error_it_is_no_tree = (u : Bool) → ¬ (IsRefusedTree u [])

abbrev pub Any_text_stands_for_a_fraction : Type 0
Any_text_stands_for_a_fraction = (u : Bool) (t : Text) → IsTree bench u (json "{\"not\":{\"title\":1.5}}") (json "1") [] [] (refused_tree (not_error t))

-- ---- a leaf with two texts

abbrev pub first : Described
first = (codes "leaf", codes "1", false)

abbrev pub second : Described
second = (codes "leaf", codes "2", false)

abbrev pub IsLeafTree : List Described → Type 0
IsLeafTree es = IsLikeTree (leaf_node [] [] (first ∷ second ∷ [])) (node [] [] false None es no_tree)

abbrev pub Texts_of_a_leaf_stand_in_any_order : Type 0
Texts_of_a_leaf_stand_in_any_order = IsLeafTree (first ∷ second ∷ []) × IsLeafTree (second ∷ first ∷ [])

abbrev pub Without_one_of_its_texts_it_is_no_leaf : Type 0
Without_one_of_its_texts_it_is_no_leaf = ¬ (IsLeafTree (first ∷ []))
