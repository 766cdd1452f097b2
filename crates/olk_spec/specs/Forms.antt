-- More forms of worked rows: whole trees, kinds and instances, which texts are promised, and what patterns and characters are to the matcher and to a test.
use Rattle.std.specs.Prelude.{◌≡◌, ℕ, Bool, true, false, not, cond, List, [], ◌∷◌, ◌++◌, map, codes, Option, Some, None}
use Rattle.std.specs.List.{flat_map, list_all}
use Prim.Native.String.{String as Quoted}
use Rattle.serde_json.specs.Written.{compact_text}
use Rattle.olk_spec.specs.Names.{Text, Name}
use Rattle.olk_spec.specs.Json.{json, arr, str}
use Rattle.olk_spec.specs.World.{World, Says}
use Rattle.olk_spec.specs.Bench.{bench}
use Rattle.olk_spec.specs.Literals.{is_ecma_whitespace}
use Rattle.olk_spec.specs.Meanings.{pattern_says}
use Rattle.olk_spec.specs.Malformed.{malformations_at}
use Rattle.olk_spec.specs.Faults.{Fault, fault, Kind, AdditionalProperties, AnyOf, OneOfNotValid, OneOfMultipleValid, Not, Required, FalseSchema, PropertyNames, Leaf, SingleType, MultipleTypes, UniqueItems, Regex, Unsupported, LeafRefused}
use Rattle.olk_spec.specs.Tree.{Tree, node, leaf_node, Trees, no_tree, and_tree, Described, is_valid}
use Rattle.olk_spec.specs.Texts.{keyword, kind_text, prints_fraction}
use Rattle.olk_spec.specs.Reports.{cut}
use Rattle.olk_spec.specs.Answers.{path_text, sorted, lines, found, refusals, tree_of}

-- ---- a whole tree: of each node the schema path, the instance path, `invalid` where it is, the names that it shows, its own errors, and in parentheses each child

abbrev pub shown_names : Option (List Name) → Text
shown_names None = []
shown_names (Some ns) = codes " names " ++ compact_text (arr (map str ns))

-- a text that is not promised is written `~`
abbrev pub shown_error : Described → Text
shown_error e = codes " error " ++ e.0 ++ codes ": " ++ cond e.2 (codes "~") e.1

abbrev mutual
  pub tree_text : Tree → Text
  tree_text (node P Q b a es ts) = path_text P ++ codes " @ " ++ path_text Q ++ cond b [] (codes " invalid") ++ shown_names a ++ flat_map shown_error es ++ trees_text ts
  tree_text (leaf_node P Q es) = path_text P ++ codes " @ " ++ path_text Q ++ cond (is_valid (leaf_node P Q es)) [] (codes " invalid") ++ flat_map shown_error es

  pub trees_text : Trees → Text
  trees_text no_tree = []
  trees_text (and_tree t ts) = codes "(" ++ tree_text t ++ codes ")" ++ trees_text ts

abbrev pub Has_tree : Quoted → Quoted → Quoted → Type 0
Has_tree S v t = (u : Bool) → tree_text (tree_of u (json S) (json v)) ≡ codes t

-- ---- a fault by its kind, its instance and its two paths, with the fault inside a fault of a name

abbrev pub kind_name : Kind → Text
kind_name (AdditionalProperties ns) = codes "AdditionalProperties"
kind_name (AnyOf c) = codes "AnyOf"
kind_name (OneOfNotValid c) = codes "OneOfNotValid"
kind_name (OneOfMultipleValid c) = codes "OneOfMultipleValid"
kind_name (Not d) = codes "Not"
kind_name (Required n) = codes "Required"
kind_name FalseSchema = codes "FalseSchema"
kind_name (PropertyNames f) = codes "PropertyNames"
kind_name (Leaf k t) = codes "Leaf"
kind_name (SingleType t) = codes "SingleType"
kind_name MultipleTypes = codes "MultipleTypes"
kind_name UniqueItems = codes "UniqueItems"
kind_name Regex = codes "Regex"
kind_name (Unsupported k) = codes "Unsupported"
kind_name (LeafRefused k) = codes "LeafRefused"

abbrev mutual
  pub told : Fault → Text
  told (fault k v Q P) = kind_name k ++ codes " of " ++ compact_text v ++ codes " @ " ++ path_text Q ++ codes ", " ++ path_text P ++ told_inside k

  pub told_inside : Kind → Text
  told_inside (PropertyNames f) = codes " {" ++ told f ++ codes "}"
  told_inside k = []

abbrev pub Tells : Quoted → Quoted → List Quoted → Type 0
Tells S v ls = (u : Bool) → sorted (map told (found u (json S) (json v))) ≡ map codes ls

abbrev pub Is_refused_as : Quoted → List Quoted → Type 0
Is_refused_as S ls = sorted (map told (malformations_at bench (json S) [])) ≡ map codes ls

-- what `validate` may keep of the faults
abbrev pub Keeps : Quoted → Quoted → List Quoted → Type 0
Keeps S v ls = (u : Bool) → sorted (map (λ f. told (cut f)) (found u (json S) (json v))) ≡ map codes ls

-- the keywords of the faults
abbrev pub fault_keyword : Fault → Text
fault_keyword (fault k v Q P) = keyword k

abbrev pub Has_keywords : Quoted → Quoted → List Quoted → Type 0
Has_keywords S v ks = (u : Bool) → sorted (map fault_keyword (found u (json S) (json v))) ≡ map codes ks

-- nothing is wrong with any of these
abbrev pub All_build : List Quoted → Type 0
All_build Ss = flat_map (λ S. refusals (json S)) Ss ≡ []

-- the text for a leaf k that doesn't take a value
abbrev pub Leaf_is_refused_as : Quoted → Quoted → Quoted → Type 0
Leaf_is_refused_as k d t = kind_text (LeafRefused (codes k)) (json d) ≡ codes t

-- this is all that is wrong with it, whatever the leaves and the matcher are
abbrev pub Is_always_refused : Quoted → List Quoted → Type 0
Is_always_refused S ls = (W : World) → lines (malformations_at W (json S) []) ≡ map codes ls

-- ---- whether the text of the one fault, or malformation, is promised: where it prints no fraction

abbrev pub Promises_its_text : Quoted → Quoted → Type 0
Promises_its_text S v = (u : Bool) → map prints_fraction (found u (json S) (json v)) ≡ false ∷ []

abbrev pub Promises_no_text : Quoted → Quoted → Type 0
Promises_no_text S v = (u : Bool) → map prints_fraction (found u (json S) (json v)) ≡ true ∷ []

abbrev pub Promises_its_refusal : Quoted → Type 0
Promises_its_refusal S = map prints_fraction (malformations_at bench (json S) []) ≡ false ∷ []

-- the same of each of these schemas and values, and of each of these schemas
abbrev pub All_promise_their_texts : List (Quoted × Quoted) → Type 0
All_promise_their_texts es = (u : Bool) → map (λ e. map prints_fraction (found u (json e.0) (json e.1))) es ≡ map (λ e. false ∷ []) es

abbrev pub All_promise_their_refusals : List Quoted → Type 0
All_promise_their_refusals Ss = map (λ S. map prints_fraction (malformations_at bench (json S) [])) Ss ≡ map (λ S. false ∷ []) Ss

abbrev pub None_promises_its_refusal : List Quoted → Type 0
None_promises_its_refusal Ss = map (λ S. map prints_fraction (malformations_at bench (json S) [])) Ss ≡ map (λ S. true ∷ []) Ss

-- ---- what the bench's matcher says of a name, and what the pattern says, which may have a test of its own

abbrev pub Says_of : Quoted → Quoted → Says → Says → Type 0
Says_of p n matcher pattern = (bench.says (codes p) (codes n) ≡ matcher) × (pattern_says bench (codes p) (codes n) ≡ pattern)

-- ---- characters

abbrev pub Are_white_space : List ℕ → Type 0
Are_white_space cs = list_all is_ecma_whitespace cs ≡ true

abbrev pub Are_no_white_space : List ℕ → Type 0
Are_no_white_space cs = list_all (λ c. not (is_ecma_whitespace c)) cs ≡ true
