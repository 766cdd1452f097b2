-- What the keywords of a document ask, want and tell, one row for each.
use Rattle.std.specs.Prelude.{ℕ, ◌+◌, Bool, true, not, ◌&&◌, List, [], ◌∷◌, ◌++◌, map, codes, length, drop, count_by, sum_by, nat_lt, option_to_list}
use Rattle.std.specs.List.{flat_map, list_all, list_any, zip}
use Rattle.serde_json.specs.Data.{Data}
use Rattle.olk_numbers.specs.Numbers.{natural}
use Rattle.olk_spec.specs.Names.{Text, Name, Path, ◌//◌, down}
use Rattle.olk_spec.specs.Bench.{shown}
use Rattle.olk_spec.specs.Faults.{Fault, Leaf}
use Rattle.olk_spec.specs.Reports.{fault_if}
use Rattle.olk_spec.specs.Tree.{Tree, plain, erring}
use Rattle.olk_spec.specs.Schemas.{Keywords, Part, branches, numbered, as_text, wholes_at, parts_at, is_array}
use Rattle.olk_spec.specs.Malformed.{items_of_array}
use Rattle.olk_spec.specs.Meanings.{Meaning, Asked, asked, holds}
use Rattle.olk_document_spec.specs.Keywords.{Document_keyword, prefix_items, items, contains, reference, bound, other, Target, Targets}

-- the items of a value from a position on, each under its position
abbrev pub items_from : ℕ → Data → List (Name × Data)
items_from n v = drop n (numbered (items_of_array v))

-- the whole number from 0 that a value is: none or one
abbrev pub naturals : Data → List ℕ
naturals d = option_to_list (natural d)

-- what is told where `contains` accepts too few items, or too many
abbrev pub contains_text : Data → Text
contains_text v = codes "None of " ++ shown v ++ codes " are valid under the given schema"

-- ---- the neighbours of a keyword

module _ {X : Type 0} (S : Keywords X) where
  -- how many schemas `prefixItems` has
  abbrev pub prefix_length : ℕ
  prefix_length = length (flat_map (λ p. p.items) (parts_at S (codes "prefixItems")))

  abbrev pub bounds_at : Name → List ℕ
  bounds_at k = flat_map (λ s. naturals s.schema) (wholes_at S k)

  -- `minContains`, which is 1 where it is absent, and `maxContains` are met
  abbrev pub is_enough : ℕ → List ℕ → Bool
  is_enough n [] = not (nat_lt n 1)
  is_enough n (least ∷ more) = not (nat_lt n least)

  abbrev pub is_within : ℕ → Bool
  is_within n = is_enough n (bounds_at (codes "minContains")) && not (list_any (λ most. nat_lt most n) (bounds_at (codes "maxContains")))

module _ (T : Targets) (S : Keywords Meaning) (k : Name) (p : Part Meaning) (v : Data) where
  -- the subschemas that a keyword asks; k is its name and p its value
  abbrev pub applied_to_items : Document_keyword → List Asked
  applied_to_items prefix_items = map (λ e. asked e.0.1 e.1.1 (k ∷ e.0.0 ∷ []) (e.1.0 ∷ [])) (zip (branches p) (items_from 0 v))
  applied_to_items items = map (λ e. asked p.whole e.1 (k ∷ []) (e.0 ∷ [])) (items_from (prefix_length S) v)
  applied_to_items w = []

  -- the place that `$ref` names, which is asked about the value itself
  abbrev pub referred : Document_keyword → List Target
  referred reference = flat_map T (as_text p.whole.schema)
  referred w = []

  -- how many items `contains` accepts
  abbrev pub contained : ℕ
  contained = count_by (λ d. holds p.whole d) (items_of_array v)

  -- those are too few, or too many
  abbrev pub is_lacking : Bool
  is_lacking = is_array v && not (is_within S contained)

  abbrev pub document_wanted : Document_keyword → Bool
  document_wanted contains = not is_lacking
  document_wanted w = true

  abbrev pub document_accepts : Document_keyword → Bool
  document_accepts w = list_all (λ a. holds a.sub a.value) (applied_to_items w) && list_all (λ t. t.meaning.accepts v) (referred w) && document_wanted w

  module _ (P Q : Path) where
    -- the faults of a keyword itself; P is the path of the schema object
    abbrev pub document_own : Document_keyword → List Fault
    document_own contains = fault_if is_lacking (Leaf k (contains_text v)) v (P // k) Q
    document_own w = []

    -- what the place that is named finds, it finds at its own place
    abbrev pub document_report : Document_keyword → List Fault
    document_report w = flat_map (λ a. a.sub.answer.report a.value (down P a.in_schema) (down Q a.in_instance)) (applied_to_items w)
        ++ flat_map (λ t. t.meaning.report v t.place Q) (referred w) ++ document_own w

    abbrev pub item_trees : Document_keyword → List Tree
    item_trees w = map (λ a. a.sub.answer.tree a.value (down P a.in_schema) (down Q a.in_instance)) (applied_to_items w)

    abbrev pub document_child : Document_keyword → List Tree
    document_child contains = erring (P // k) Q (document_own contains) ∷ []
    document_child reference = plain (P // k) Q (map (λ t. t.meaning.tree v t.place Q) (referred reference)) ∷ []
    document_child bound = []
    document_child other = []
    document_child w = plain (P // k) Q (item_trees w) ∷ []

  -- how many matchers they may ask
  abbrev pub document_asks : Document_keyword → ℕ
  document_asks contains = sum_by (λ d. p.whole.answer.asks d) (items_of_array v)
  document_asks w = sum_by (λ a. a.sub.answer.asks a.value) (applied_to_items w) + sum_by (λ t. t.meaning.asks v) (referred w)
