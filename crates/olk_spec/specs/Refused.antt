-- Which lists are reports: the order is free, also inside a context, and nothing may be left out, be told elsewhere or change its branch.
use Rattle.std.specs.Prelude.{◌≡◌, Bool, List, [], ◌∷◌, map, codes, length, IsPermutation}
use Rattle.serde_json.specs.Data.{Data}
use Rattle.olk_spec.specs.Names.{Name, Path}
use Rattle.olk_spec.specs.World.{World}
use Rattle.olk_spec.specs.Bench.{bench}
use Rattle.olk_spec.specs.Json.{json}
use Rattle.olk_spec.specs.Faults.{Fault, fault, AdditionalProperties, AnyOf, Required, Leaf, context}
use Rattle.olk_spec.specs.Meaning.{report, IsReport}
use Rattle.olk_spec.specs.Answers.{lines}
use Rattle.olk_spec.specs.Forms.{told, fault_keyword}

-- every report has as many faults as any other
abbrev pub One_length : Type 0
One_length = (W : World) (u : Bool) (S v : Data) (P Q : Path) (list : List Fault) → IsReport W u S v P Q list → length list ≡ length (report W u S v P Q)

-- what a fault is about: the instance, its path and the path of the schema
abbrev pub place : Fault → Data × Path × Path
place (fault k v Q P) = (v, Q, P)

-- the faults of every report are about the same instances at the same paths
abbrev pub One_list_of_places : Type 0
One_list_of_places = (W : World) (u : Bool) (S v : Data) (P Q : Path) (list : List Fault) → IsReport W u S v P Q list → IsPermutation (map place list) (map place (report W u S v P Q))

-- every report has the same lines: texts and paths, and what each branch of a context finds, in the order of the branches
abbrev pub One_list_of_lines : Type 0
One_list_of_lines = (W : World) (u : Bool) (S v : Data) (P Q : Path) (list : List Fault) → IsReport W u S v P Q list → lines list ≡ lines (report W u S v P Q)

-- every report tells the same kinds, and inside a fault of a name the same fault
abbrev pub One_list_of_kinds : Type 0
One_list_of_kinds = (W : World) (u : Bool) (S v : Data) (P Q : Path) (list : List Fault) → IsReport W u S v P Q list → IsPermutation (map told list) (map told (report W u S v P Q))

-- every report tells the same keywords, those of leaves among them
abbrev pub One_list_of_fault_keywords : Type 0
One_list_of_fault_keywords = (W : World) (u : Bool) (S v : Data) (P Q : Path) (list : List Fault) → IsReport W u S v P Q list → IsPermutation (map fault_keyword list) (map fault_keyword (report W u S v P Q))

-- ---- an object that takes no other members

abbrev pub closed : Data
closed = json "{\"properties\":{},\"additionalProperties\":false}"

abbrev pub two_others : Data
two_others = json "{\"faz\":1,\"haz\":1}"

abbrev pub unexpected : List Name → List Fault
unexpected ns = fault (AdditionalProperties ns) two_others [] (codes "/additionalProperties") ∷ []

abbrev pub All_names_are_told : Type 0
All_names_are_told = (u : Bool) → IsReport bench u closed two_others [] [] (unexpected (codes "faz" ∷ codes "haz" ∷ []))

abbrev pub First_name_alone_is_no_report : Type 0
First_name_alone_is_no_report = (u : Bool) → ¬ (IsReport bench u closed two_others [] [] (unexpected (codes "faz" ∷ [])))

-- ---- a choice of an integer and an object of two names

abbrev pub choice : Data
choice = json "{\"anyOf\":[{\"type\":\"integer\"},{\"required\":[\"a\",\"b\"]}]}"

abbrev pub nothing : Data
nothing = json "{}"

abbrev pub no_integer : Fault
no_integer = fault (Leaf (codes "type") (codes "{} is not of type \"integer\"")) nothing [] (codes "/anyOf/0/type")

abbrev pub lacks : Name → Fault
lacks n = fault (Required n) nothing [] (codes "/anyOf/1/required")

-- the fault of the choice, with these faults for each branch
abbrev pub no_choice : List (List Fault) → List Fault
no_choice branches = fault (AnyOf (context branches)) nothing [] (codes "/anyOf") ∷ []

abbrev pub IsChoiceReport : Bool → List (List Fault) → Type 0
IsChoiceReport u branches = IsReport bench u choice nothing [] [] (no_choice branches)

abbrev pub Order_in_a_branch_is_free : Type 0
Order_in_a_branch_is_free = (u : Bool) → IsChoiceReport u ((no_integer ∷ []) ∷ (lacks (codes "a") ∷ lacks (codes "b") ∷ []) ∷ []) × IsChoiceReport u ((no_integer ∷ []) ∷ (lacks (codes "b") ∷ lacks (codes "a") ∷ []) ∷ [])

abbrev pub First_faults_alone_are_no_report : Type 0
First_faults_alone_are_no_report = (u : Bool) → ¬ (IsChoiceReport u ((no_integer ∷ []) ∷ (lacks (codes "a") ∷ []) ∷ []))

abbrev pub Exchanged_branches_are_no_report : Type 0
Exchanged_branches_are_no_report = (u : Bool) → ¬ (IsChoiceReport u ((lacks (codes "a") ∷ lacks (codes "b") ∷ []) ∷ (no_integer ∷ []) ∷ []))

abbrev pub No_branches_are_no_report : Type 0
No_branches_are_no_report = (u : Bool) → ¬ (IsChoiceReport u [])
