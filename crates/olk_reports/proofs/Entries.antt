-- What a tree shows, node by node.
use Rattle.std.proofs.Common.{◌≡◌, List, [], ◌∷◌, ◌++◌, map, refl, sym, ap, ◌∙◌, ◌<◌, ◌≤◌, ◌+◌, length, get_or, take, append_assoc, ℕ, zero, suc, arith}
use Rattle.std.specs.List.{flat_map}
use Rattle.std.proofs.lemmas.List.{append-nil, take_all, take_more, flat_map_more}
use Rattle.std.proofs.lemmas.List.Folds.{flat_map-map}
use Rattle.std.proofs.lemmas.Simd.{map-map}
use Rattle.olk_spec.specs.Names.{Path}
use Rattle.olk_reports.specs.declared.evaluation.ErrorDescription.{ErrorDescription}
use Rattle.olk_spec.specs.Tree.{Described, Tree, node, leaf_node, Trees, no_tree, and_tree, errors, errors_of, annotations, annotations_of, trees_from}
use Rattle.olk_reports.specs.Shown.{tree_size, trees_size}
use Rattle.olk_reports.specs.Evaluations.{tree_of, trees_in, tree_children, tree_errors, tree_schema_path, tree_instance_path, described_of}
use Rattle.olk_reports.specs.Entries.{own_errors, own_annotations}
use Rattle.olk_reports.specs.declared.evaluation.EvaluationNode.{EvaluationNode}

errors_of-each : (ts : Trees) → errors_of ts ≡ flat_map errors (trees_in ts)
errors_of-each no_tree = refl
errors_of-each (and_tree t ts) = ap (λ es. errors t ++ es) (errors_of-each ts)

annotations_of-each : (ts : Trees) → annotations_of ts ≡ flat_map annotations (trees_in ts)
annotations_of-each no_tree = refl
annotations_of-each (and_tree t ts) = ap (λ es. annotations t ++ es) (annotations_of-each ts)

errors_parts : (t : Tree) → errors t ≡ own_errors t ++ flat_map errors (tree_children t)
errors_parts (node P Q b a es ts) = ap (λ l. own_errors (node P Q b a es ts) ++ l) (errors_of-each ts)
errors_parts (leaf_node P Q es) = sym (append-nil _)

annotations_parts : (t : Tree) → annotations t ≡ own_annotations t ++ flat_map annotations (tree_children t)
annotations_parts (node P Q b a es ts) = ap (λ l. own_annotations (node P Q b a es ts) ++ l) (annotations_of-each ts)
annotations_parts (leaf_node P Q es) = refl

-- its own errors, and then those of each node below
module _ (t : Tree) (ns : List EvaluationNode) (below : map tree_of ns ≡ tree_children t) where
  pub errors_below : errors t ≡ own_errors t ++ flat_map (λ m. errors (tree_of m)) ns
  errors_below =
      errors_parts t
      ∙ ap (λ ts. own_errors t ++ flat_map errors ts) (sym below)
      ∙ ap (λ l. own_errors t ++ l) (flat_map-map errors tree_of ns)

  pub annotations_below : annotations t ≡ own_annotations t ++ flat_map (λ m. annotations (tree_of m)) ns
  annotations_below =
      annotations_parts t
      ∙ ap (λ ts. own_annotations t ++ flat_map annotations ts) (sym below)
      ∙ ap (λ l. own_annotations t ++ l) (flat_map-map annotations tree_of ns)

-- a walk over the nodes below that has come to its end
pub below_end : {X Y : Type 0} (f : X → List Y) (items below : List X) (i : ℕ) (before between after own all : List Y) →
    length items ≤ i → items ≡ below → between ≡ before ++ own → after ≡ between ++ flat_map f (take i items) → all ≡ own ++ flat_map f below → after ≡ before ++ all
below_end f items below i before between after own all past same start walked parts =
    walked
    ∙ ap (λ xs. between ++ flat_map f xs) (take_all i items past ∙ same)
    ∙ ap (λ l. l ++ flat_map f below) start
    ∙ append_assoc before own (flat_map f below)
    ∙ ap (λ l. before ++ l) (sym parts)

-- one step of a walk over the nodes below
pub below_more : {X Y : Type 0} (f : X → List Y) (items : List X) (i : ℕ) (x : X) (before between after : List Y) →
    i < length items → x ≡ get_or items i x → between ≡ before ++ flat_map f (take i items) → after ≡ between ++ f x → after ≡ before ++ flat_map f (take (i + 1) items)
below_more f items i x before between after inside is walked step =
    step
    ∙ ap (λ l. l ++ f x) walked
    ∙ flat_map_more f before (take i items) x
    ∙ ap (λ y. before ++ flat_map f (take i items ++ y ∷ [])) is
    ∙ ap (λ xs. before ++ flat_map f xs) (sym (take_more items i x inside))

-- a walk over a node's own errors that has come to its end
pub own_end : (t : Tree) (items : List ErrorDescription) (i : ℕ) (before after : List (Path × Path × Described)) →
    length items ≤ i → after ≡ before ++ map (λ e. (tree_schema_path t, tree_instance_path t, described_of e)) (take i items) → map described_of items ≡ tree_errors t → after ≡ before ++ own_errors t
own_end t items i before after past walked same =
    walked
    ∙ ap (λ xs. before ++ map (λ e. (tree_schema_path t, tree_instance_path t, described_of e)) xs) (take_all i items past)
    ∙ ap (λ l. before ++ l) (sym (map-map (λ e. (tree_schema_path t, tree_instance_path t, e)) described_of items))
    ∙ ap (λ es. before ++ map (λ e. (tree_schema_path t, tree_instance_path t, e)) es) same

-- ---- a node has more nodes than each below it

from-trees_in : (ts : Trees) → trees_from (trees_in ts) ≡ ts
from-trees_in no_tree = refl
from-trees_in (and_tree t ts) = ap (λ us. and_tree t us) (from-trees_in ts)

no_more : (ns : List EvaluationNode) (i : ℕ) (n : EvaluationNode) → i < length ns → n ≡ get_or ns i n → tree_size (tree_of n) ≤ trees_size (trees_from (map tree_of ns))
no_more [] i n inside is = absurd (omega (arith, inside))
no_more (m ∷ ns) zero n inside is =
    let same : tree_size (tree_of n) ≡ tree_size (tree_of m) = ap (λ k. tree_size (tree_of k)) is in
    omega (arith, same)
no_more (m ∷ ns) (suc i) n inside is =
    let rest : tree_size (tree_of n) ≤ trees_size (trees_from (map tree_of ns)) = no_more ns i n (omega (arith, inside)) is in
    omega (arith, rest)

pub below_is_less : (t : Tree) (ns : List EvaluationNode) (i : ℕ) (n : EvaluationNode) → map tree_of ns ≡ tree_children t → i < length ns → n ≡ get_or ns i n → tree_size (tree_of n) < tree_size t
below_is_less (node P Q b a es ts) ns i n below inside is =
    let whole : trees_size (trees_from (map tree_of ns)) ≡ trees_size ts = ap (λ us. trees_size (trees_from us)) below ∙ ap trees_size (from-trees_in ts) in
    let part : tree_size (tree_of n) ≤ trees_size (trees_from (map tree_of ns)) = no_more ns i n inside is in
    omega (arith, whole, part)
below_is_less (leaf_node P Q es) [] i n below inside is = absurd (omega (arith, inside))
below_is_less (leaf_node P Q es) (m ∷ ns) i n below inside is = cc
