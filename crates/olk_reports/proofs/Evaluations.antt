-- Facts on results and the trees that they show.
use Rattle.std.proofs.Common.{◌&&◌, ◌≡◌, ℕ, Bool, true, false, Option, None, option_map, List, [], ◌∷◌, ◌++◌, map, refl, sym, ap, ◌∙◌, Vec, Bor}
use Rattle.std.specs.List.{list_all}
use Rattle.std.specs.declared.alloc.Global.{Global}
use Rattle.std.proofs.Math.Bool.{and-true}
use Rattle.std.proofs.lemmas.List.Folds.{list_all-map, list_all-append}
use Rattle.std.proofs.lemmas.List.{map-append}
use Rattle.serde_json.specs.Data.{Data}
use Rattle.olk_spec.specs.Names.{Name, Path}
use Rattle.olk_spec.specs.Faults.{Kind, fault}
use Rattle.olk_spec.specs.Tree.{Tree, Described, is_valid}
use Rattle.olk_reports.specs.Evaluations.{Shown, shown, shown_valid, shown_annotation, shown_errors, shown_children, IsConsistent, tree_of, node_at, errored, AddsErrors, IsDescribedBy, with_children, with_names, called_invalid, described_of, tree_schema_path, tree_instance_path, tree_annotation, tree_errors, tree_children}
use Rattle.olk_reports.specs.Shown.{trees_in-from}
use Rattle.olk_reports.specs.declared.evaluation.ErrorDescription.{ErrorDescription}
use Rattle.olk_reports.specs.declared.evaluation.EvaluationNode.{EvaluationNode}

pub each_valid : (ns : List EvaluationNode) → list_all is_valid (map tree_of ns) ≡ list_all (λ n. is_valid (tree_of n)) ns
each_valid ns = list_all-map is_valid tree_of ns

-- ---- what stands at a place

module _ (P Q : Path) where
  pub valid_at : (s : Shown) → is_valid (node_at P Q s) ≡ shown_valid s
  valid_at (shown true a es ts) = refl
  valid_at (shown false a es ts) = refl

  pub schema_path_at : (s : Shown) → tree_schema_path (node_at P Q s) ≡ P
  schema_path_at (shown true a es ts) = refl
  schema_path_at (shown false a es ts) = refl

  pub instance_path_at : (s : Shown) → tree_instance_path (node_at P Q s) ≡ Q
  instance_path_at (shown true a es ts) = refl
  instance_path_at (shown false a es ts) = refl

  pub annotation_at : (s : Shown) → shown_valid s ≡ true → tree_annotation (node_at P Q s) ≡ shown_annotation s
  annotation_at (shown true a es ts) valid = refl
  annotation_at (shown false a es ts) valid = cc

  pub no_annotation_at : (s : Shown) → shown_valid s ≡ false → tree_annotation (node_at P Q s) ≡ None
  no_annotation_at (shown true a es ts) invalid = cc
  no_annotation_at (shown false a es ts) invalid = refl

  pub errors_at : (s : Shown) → tree_errors (node_at P Q s) ≡ shown_errors s
  errors_at (shown true a es ts) = refl
  errors_at (shown false a es ts) = refl

  pub children_at : (s : Shown) → tree_children (node_at P Q s) ≡ shown_children s
  children_at (shown true a es ts) = trees_in-from ts
  children_at (shown false a es ts) = trees_in-from ts

  pub consistent_at : (s : Shown) → IsConsistent s → is_valid (node_at P Q s) ≡ true → list_all is_valid (tree_children (node_at P Q s)) ≡ true
  consistent_at (shown true a es ts) so valid = ap (list_all is_valid) (trees_in-from ts) ∙ so refl
  consistent_at (shown false a es ts) so valid = cc

-- ---- parts that change

-- one node more
module _ (ns : List EvaluationNode) {ms : List EvaluationNode} (n : EvaluationNode) (more : ms ≡ ns ++ n ∷ []) where
  trees_more : map tree_of ms ≡ map tree_of ns ++ tree_of n ∷ []
  trees_more = ap (map tree_of) more ∙ map-append tree_of ns (n ∷ [])

  pub shown_more : {b v : Bool} {a : Option (List Name)} {es : List Described} {s : Shown}
      → v ≡ is_valid (tree_of n) → shown b a es (map tree_of ns) ≡ s → shown (b && v) a es (map tree_of ms) ≡ with_children (tree_of n ∷ []) s
  shown_more {b} {a = a} {es} valid is = (λ i. shown (b && (valid ∙ sym (and-true (is_valid (tree_of n)))) i) a es (trees_more i)) ∙ ap (with_children (tree_of n ∷ [])) is

  pub valid_more : (b v : Bool) → v ≡ is_valid (tree_of n) → (b ≡ true → list_all is_valid (map tree_of ns) ≡ true) → (b && v) ≡ true → list_all is_valid (map tree_of ms) ≡ true
  valid_more true true valid so both =
      ap (list_all is_valid) trees_more ∙ list_all-append is_valid (map tree_of ns) (tree_of n ∷ []) ∙ (λ i. so refl i && (sym valid i && true))
  valid_more true false valid so both = cc
  valid_more false v valid so both = cc

-- one more error, which makes it invalid
pub shown_errored : (es : List ErrorDescription) {fs : List ErrorDescription} (e : ErrorDescription) {b : Bool} {a : Option (List Name)} {ts : List Tree} {s : Shown}
    → fs ≡ es ++ e ∷ [] → shown b a (map described_of es) ts ≡ s → called_invalid (shown b a (map described_of fs) ts) ≡ errored (described_of e) s
shown_errored es e {a = a} {ts} more is =
    (λ i. shown false a ((ap (map described_of) more ∙ map-append described_of es (e ∷ [])) i) ts) ∙ ap (errored (described_of e)) is

-- a description says nothing of the places
pub adds_one : {k : Kind} {v : Data} {P Q R S : Path} {d : Described} {s r : Shown} → IsDescribedBy (fault k v P Q) d → r ≡ errored d s → AddsErrors (fault k v R S ∷ []) s r
adds_one {d = d} t is = record { own = d ∷ []; told = (t.keyword, t.text, tt); is = is }

-- names behind those that are annotated
abbrev pub names_in : Option (Vec (Bor (List ℕ)) Global) → Option (List Name)
names_in a = option_map (λ ns. map (λ n. n.now) ns.items) a

pub shown_named : (ns : List Name) {b : Bool} {o a : Option (List Name)} {es : List Described} {ts : List Tree} {s : Shown}
    → a ≡ option_map (λ ms. ms ++ ns) o → shown b o es ts ≡ s → shown b a es ts ≡ with_names ns s
shown_named ns {b} {es = es} {ts} more is = (λ i. shown b (more i) es ts) ∙ ap (with_names ns) is
