-- What the definitions answer for small schemas and values over the bench, in the form in which worked rows compare it.
use Rattle.std.specs.Prelude.{◌≡◌, ℕ, Bool, true, false, List, [], ◌∷◌, ◌++◌, map, codes, Some, None}
use Rattle.std.specs.List.{flat_map}
use Rattle.std.specs.Ordering.{nat_cmp}
use Rattle.std.specs.declared.cmp.Ordering.{Ordering}
use Rattle.std.specs.declared.cmp.Ordering.TheVariants.{Less, Equal, Greater}
use Rattle.std.specs.Cmp.Lexicographic.{slice_cmp}
use Prim.Native.String.{String as Quoted}
use Rattle.serde_json.specs.Data.{Data, boolean}
use Rattle.olk_spec.specs.Names.{Text, Name, Path, is_empty}
use Rattle.olk_spec.specs.Json.{json, json_of, obj, arr, str}
use Rattle.olk_spec.specs.Bench.{bench}
use Rattle.olk_spec.specs.Literals.{Literal, literal}
use Rattle.olk_spec.specs.Faults.{Fault, fault, Kind, AnyOf, OneOfNotValid, OneOfMultipleValid, Context, no_branch, branch, Faults, no_fault, and_fault}
use Rattle.olk_spec.specs.Texts.{kind_text}
use Rattle.olk_spec.specs.Reports.{cut}
use Rattle.olk_spec.specs.Tree.{Tree, node, leaf_node, Trees, no_tree, and_tree, Described, annotations, errors, is_valid}
use Rattle.olk_spec.specs.Meaning.{accepts, report, asks, tree}
use Rattle.olk_spec.specs.Malformed.{malformations_at}
use Rattle.olk_spec.specs.Costs.{places, leaf_places, pattern_places, table_asks}

-- ---- texts in byte order

abbrev pub put_before : Ordering → Text → Text → List Text → List Text → List Text
put_before Greater t s ss more = s ∷ more
put_before Less t s ss more = t ∷ s ∷ ss
put_before Equal t s ss more = t ∷ s ∷ ss

abbrev pub insert_text : Text → List Text → List Text
insert_text t [] = t ∷ []
insert_text t (s ∷ ss) = put_before (slice_cmp nat_cmp t s) t s ss (insert_text t ss)

abbrev pub sorted : List Text → List Text
sorted [] = []
sorted (t ∷ ts) = insert_text t (sorted ts)

-- ---- a fault as a line: its text, its instance path and its schema path; then, in brackets, what each branch finds

abbrev pub path_text : Path → Text
path_text [] = codes "\"\""
path_text (b ∷ bs) = b ∷ bs

abbrev mutual
  pub line : Fault → Text
  line (fault k v Q P) = kind_text k v ++ codes " @ " ++ path_text Q ++ codes ", " ++ path_text P ++ in_brackets k

  pub in_brackets : Kind → Text
  in_brackets (AnyOf c) = codes " [" ++ branch_texts c ++ codes "]"
  in_brackets (OneOfNotValid c) = codes " [" ++ branch_texts c ++ codes "]"
  in_brackets (OneOfMultipleValid c) = codes " [" ++ branch_texts c ++ codes "]"
  in_brackets k = []

  pub branch_texts : Context → Text
  branch_texts no_branch = []
  branch_texts (branch fs c) = codes "{" ++ flat_map (λ t. t ++ codes ";") (sorted (fault_lines fs)) ++ codes "}" ++ branch_texts c

  pub fault_lines : Faults → List Text
  fault_lines no_fault = []
  fault_lines (and_fault f fs) = line f ∷ fault_lines fs

abbrev pub lines : List Fault → List Text
lines fs = sorted (map line fs)

-- ---- rows: S is the text of a schema and v that of a value

abbrev pub verdict : Bool → Data → Data → Bool
verdict u S v = accepts bench u S v

abbrev pub found : Bool → Data → Data → List Fault
found u S v = report bench u S v [] []

abbrev pub tree_of : Bool → Data → Data → Tree
tree_of u S v = tree bench u S v [] []

-- the verdict, the verdict of the tree, and the faults, where u is the answer for unfinished matches
abbrev pub Holds_at : Bool → Data → Data → Type 0
Holds_at u S v = (verdict u S v ≡ true) × (is_valid (tree_of u S v) ≡ true) × (lines (found u S v) ≡ [])

abbrev pub Fails_at : Bool → Data → Data → List Quoted → Type 0
Fails_at u S v ls = (verdict u S v ≡ false) × (is_valid (tree_of u S v) ≡ false) × (lines (found u S v) ≡ map codes ls)

-- the same under either answer: the schema accepts the value, and it finds these faults in it
abbrev pub Holds : Quoted → Quoted → Type 0
Holds S v = (u : Bool) → Holds_at u (json S) (json v)

abbrev pub Fails : Quoted → Quoted → List Quoted → Type 0
Fails S v ls = (u : Bool) → Fails_at u (json S) (json v) ls

-- it refuses the value, whatever the faults are
abbrev pub Refuses : Quoted → Quoted → Type 0
Refuses S v = (u : Bool) → (verdict u (json S) (json v) ≡ false) × (is_valid (tree_of u (json S) (json v)) ≡ false) × (is_empty (found u (json S) (json v)) ≡ false)

-- where a match is left unfinished
abbrev pub Holds_under : Bool → Quoted → Quoted → Type 0
Holds_under u S v = Holds_at u (json S) (json v)

abbrev pub Fails_under : Bool → Quoted → Quoted → List Quoted → Type 0
Fails_under u S v ls = Fails_at u (json S) (json v) ls

-- the instances that the faults are about, in the order of the definition
abbrev pub instance : Fault → Data
instance (fault k v Q P) = v

abbrev pub Is_about : Quoted → Quoted → List Quoted → Type 0
Is_about S v ws = (u : Bool) → map instance (found u (json S) (json v)) ≡ map json ws

-- what `validate` may keep of the faults
abbrev pub Cuts_to : Quoted → Quoted → List Quoted → Type 0
Cuts_to S v ls = (u : Bool) → lines (map cut (found u (json S) (json v))) ≡ map codes ls

-- how many matchers a verdict may ask, whichever the answer is
abbrev pub Asks : Quoted → Quoted → ℕ → Type 0
Asks S v n = (asks bench true (json S) (json v) ≡ n) × (asks bench false (json S) (json v) ≡ n)

-- how many schemas a build compiles, how many leaves and matchers it makes, and how many it asks
abbrev pub Costs : Quoted → ℕ → ℕ → ℕ → ℕ → Type 0
Costs S compiled leaves made asked =
    (places bench (json S) ≡ compiled) × (leaf_places bench (json S) ≡ leaves) × (pattern_places bench (json S) ≡ made) × (table_asks bench (json S) ≡ asked)

-- all malformations of a schema
abbrev pub refusals : Data → List Text
refusals S = lines (malformations_at bench S [])

abbrev pub Is_refused : Quoted → List Quoted → Type 0
Is_refused S ls = refusals (json S) ≡ map codes ls

-- schemas that are each refused for one thing at one path, where they stand at this path between two texts
abbrev pub Are_refused_at : Quoted → Quoted → Quoted → List (Quoted × Quoted × Quoted) → Type 0
Are_refused_at P before after es = map (λ e. refusals (json_of (codes before ++ codes e.0 ++ codes after))) es ≡ map (λ e. (codes e.1 ++ codes " @ \"\", " ++ codes P ++ codes e.2) ∷ []) es

abbrev pub Builds : Quoted → Type 0
Builds S = refusals (json S) ≡ []

-- ---- an evaluation tree as JSON: its annotations and its errors in tree order, and its verdict

abbrev pub annotation_data : Path × Path × List Name → Data
annotation_data e = obj ((codes "instancePath", str e.1) ∷ (codes "names", arr (map str e.2)) ∷ (codes "schemaPath", str e.0) ∷ [])

abbrev pub error_data : Path × Path × Described → Data
error_data e = obj ((codes "instancePath", str e.1) ∷ (codes "keyword", str e.2.0) ∷ (codes "message", str e.2.1) ∷ (codes "schemaPath", str e.0) ∷ [])

abbrev pub tree_data : Tree → Data
tree_data t = obj ((codes "annotations", arr (map annotation_data (annotations t))) ∷ (codes "errors", arr (map error_data (errors t))) ∷ (codes "valid", boolean (is_valid t)) ∷ [])

abbrev pub Evaluates : Quoted → Quoted → Quoted → Type 0
Evaluates S v answer = (u : Bool) → tree_data (tree_of u (json S) (json v)) ≡ json answer

-- the schema paths of the nodes, each with those of its children in parentheses
abbrev mutual
  pub outline : Tree → Text
  outline (node P Q b a es ts) = path_text P ++ outlines ts
  outline (leaf_node P Q es) = path_text P

  pub outlines : Trees → Text
  outlines no_tree = []
  outlines (and_tree t ts) = codes "(" ++ outline t ++ codes ")" ++ outlines ts

abbrev pub Has_nodes : Quoted → Quoted → Quoted → Type 0
Has_nodes S v nodes = (u : Bool) → outline (tree_of u (json S) (json v)) ≡ codes nodes

-- ---- the test that a pattern stands for

abbrev pub Is_pattern : Quoted → Literal → Type 0
Is_pattern p l = literal (codes p) ≡ Some l

abbrev pub Is_no_pattern : Quoted → Type 0
Is_no_pattern p = literal (codes p) ≡ None
