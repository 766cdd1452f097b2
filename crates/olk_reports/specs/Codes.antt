-- What is shown as a list, by which proofs tell values apart.
use Rattle.std.specs.Prelude.{◌≡◌, Bool, Option, Some, None, List, [], ◌∷◌}
use Rattle.std.proofs.Common.{refl, ap, ◌∙◌}
use Rattle.std.specs.Coded.{Coded, code_by, coded×, coded_bool, coded_list, coded_option, coded_ℕ}
use Rattle.olk_spec.specs.Names.{Name, Path}
use Rattle.olk_spec.specs.Tree.{Tree, node, leaf_node, Trees, no_tree, and_tree, Described, trees_from}
use Rattle.olk_reports.specs.Shown.{Shown, shown, trees_in, trees_in-from}

-- the own parts of a node; that of a leaf has neither a verdict nor an annotation
abbrev Parts : Type 0
Parts = (Path × Path) × (Option (Bool × Option (List Name)) × List Described)

-- each node before its children and these before what follows it; None ends a list of nodes
abbrev mutual
  parts_of : Tree → List (Option Parts) → List (Option Parts)
  parts_of (node P Q b a es ts) rest = Some ((P, Q), (Some (b, a), es)) ∷ parts_of_all ts rest
  parts_of (leaf_node P Q es) rest = Some ((P, Q), (None, es)) ∷ rest

  parts_of_all : Trees → List (Option Parts) → List (Option Parts)
  parts_of_all no_tree rest = None ∷ rest
  parts_of_all (and_tree t ts) rest = parts_of t (parts_of_all ts rest)

abbrev with_leaf : Path → Path → List Described → List Trees → List Trees
with_leaf P Q es [] = []
with_leaf P Q es (ts ∷ rest) = and_tree (leaf_node P Q es) ts ∷ rest

abbrev with_node : Path → Path → Bool → Option (List Name) → List Described → List Trees → List Trees
with_node P Q b a es [] = []
with_node P Q b a es (cs ∷ []) = []
with_node P Q b a es (cs ∷ ts ∷ rest) = and_tree (node P Q b a es cs) ts ∷ rest

abbrev with_parts : Option Parts → List Trees → List Trees
with_parts None rest = no_tree ∷ rest
with_parts (Some ((P, Q), (None, es))) rest = with_leaf P Q es rest
with_parts (Some ((P, Q), (Some (b, a), es))) rest = with_node P Q b a es rest

abbrev trees_of : List (Option Parts) → List Trees
trees_of [] = []
trees_of (p ∷ ps) = with_parts p (trees_of ps)

mutual
  one_back : (t : Tree) (ts : Trees) (ps : List (Option Parts)) (rest : List Trees) → trees_of ps ≡ ts ∷ rest → trees_of (parts_of t ps) ≡ and_tree t ts ∷ rest
  one_back (node P Q b a es cs) ts ps rest e = ap (with_node P Q b a es) (all_back cs ps ∙ ap (λ l. cs ∷ l) e)
  one_back (leaf_node P Q es) ts ps rest e = ap (with_leaf P Q es) e

  all_back : (ts : Trees) (ps : List (Option Parts)) → trees_of (parts_of_all ts ps) ≡ ts ∷ trees_of ps
  all_back no_tree ps = refl
  all_back (and_tree t ts) ps = one_back t ts (parts_of_all ts ps) (trees_of ps) (all_back ts ps)

abbrev first_of : List Trees → List Tree
first_of [] = []
first_of (ts ∷ rest) = trees_in ts

abbrev Stored : Type 0
Stored = (Bool × Option (List Name)) × (List Described × List (Option Parts))

abbrev to_stored : Shown → Stored
to_stored (shown b a es ts) = ((b, a), (es, parts_of_all (trees_from ts) []))

abbrev from_stored : Stored → Shown
from_stored s = shown s.0.0 s.0.1 s.1.0 (first_of (trees_of s.1.1))

pub from_stored-to_stored : (s : Shown) → from_stored (to_stored s) ≡ s
from_stored-to_stored (shown b a es ts) = ap (shown b a es) (ap first_of (all_back (trees_from ts) []) ∙ trees_in-from ts)

abbrev name_code : Coded Name
name_code = coded_list coded_ℕ

abbrev described_code : Coded Described
described_code = code_by (Name × (Name × Bool)) (coded× name_code (coded× name_code coded_bool)) (λ d. (d.0, (d.1, d.2))) (λ p. (p.0, p.1.0, p.1.1)) (λ _. refl)

abbrev annotation_code : Coded (Option (List Name))
annotation_code = coded_option (coded_list name_code)

abbrev parts_code : Coded Parts
parts_code = coded× (coded× name_code name_code) (coded× (coded_option (coded× coded_bool annotation_code)) (coded_list described_code))

abbrev stored_code : Coded Stored
stored_code = coded× (coded× coded_bool annotation_code) (coded× (coded_list described_code) (coded_list (coded_option parts_code)))

abbrev pub shown_code : Coded Shown
shown_code = code_by Stored stored_code to_stored from_stored from_stored-to_stored
