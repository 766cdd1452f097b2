-- What a result has before it stands at a place, and the tree that it is there.
use Rattle.std.specs.Prelude.{◌≡◌, ℕ, ◌+◌, Bool, true, false, ◌&&◌, Option, Some, None, List, [], ◌∷◌, ◌++◌, option_map, string_bytes}
use Rattle.std.specs.List.{list_all}
use Rattle.std.proofs.Common.{refl, ap}
use Rattle.olk_spec.specs.Names.{Name, Path}
use Rattle.olk_spec.specs.Tree.{Tree, node, leaf_node, Trees, no_tree, and_tree, Described, is_valid, trees_from, result_node}
use Rattle.olk_reports.specs.declared.evaluation.ErrorDescription.{ErrorDescription}

-- validity, annotation, own errors, children
pub data Shown : Type 0 where
  shown : Bool → Option (List Name) → List Described → List Tree → Shown

abbrev pub described_of : ErrorDescription → Described
described_of e = (e.keyword.now, string_bytes e.message, false)

abbrev pub shown_valid : Shown → Bool
shown_valid (shown b a es ts) = b

abbrev pub shown_annotation : Shown → Option (List Name)
shown_annotation (shown b a es ts) = a

abbrev pub shown_errors : Shown → List Described
shown_errors (shown b a es ts) = es

abbrev pub shown_children : Shown → List Tree
shown_children (shown b a es ts) = ts

-- a valid one has only valid children
abbrev pub IsConsistent : Shown → Type 0
IsConsistent (shown b a es ts) = b ≡ true → list_all is_valid ts ≡ true

-- what it has while it shows nothing
abbrev pub nothing_shown : Shown
nothing_shown = shown true None [] []

abbrev pub annotated : List Name → Shown → Shown
annotated ns (shown b a es ts) = shown b (Some ns) es ts

abbrev pub errored : Described → Shown → Shown
errored e (shown b a es ts) = shown false a (es ++ e ∷ []) ts

-- these children more, and invalid where one of them is
abbrev pub with_children : List Tree → Shown → Shown
with_children ts (shown b a es us) = shown (b && list_all is_valid ts) a es (us ++ ts)

-- these names behind those that are annotated, if some are
abbrev pub with_names : List Name → Shown → Shown
with_names ns (shown b a es ts) = shown b (option_map (λ ms. ms ++ ns) a) es ts

abbrev pub called_invalid : Shown → Shown
called_invalid (shown b a es ts) = shown false a es ts

-- an invalid one shows no annotation
abbrev pub node_at : Path → Path → Shown → Tree
node_at P Q (shown b a es ts) = result_node P Q b a es (trees_from ts)

-- ---- trees in a list

abbrev pub trees_in : Trees → List Tree
trees_in no_tree = []
trees_in (and_tree t ts) = t ∷ trees_in ts

pub trees_in-from : (ts : List Tree) → trees_in (trees_from ts) ≡ ts
trees_in-from [] = refl
trees_in-from (t ∷ ts) = ap (λ us. t ∷ us) (trees_in-from ts)

-- ---- sizes: how many nodes a tree has

abbrev mutual
  pub tree_size : Tree → ℕ
  tree_size (node P Q b a es ts) = trees_size ts + 1
  tree_size (leaf_node P Q es) = 1

  pub trees_size : Trees → ℕ
  trees_size no_tree = 0
  trees_size (and_tree t ts) = tree_size t + trees_size ts

abbrev pub shown_size : Shown → ℕ
shown_size (shown b a es ts) = trees_size (trees_from ts)
