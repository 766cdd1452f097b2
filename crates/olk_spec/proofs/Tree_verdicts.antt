-- A tree is valid exactly where its schema accepts.
use Rattle.std.specs.Prelude.{◌≡◌, Bool, true, false, not, cond, ◌&&◌, ◌||◌, ◌==◌, nat_lt, List, [], ◌∷◌, ◌++◌, map, codes, Option, Some, None, option_to_list, is_some}
use Rattle.std.specs.List.{flat_map, list_all, list_any}
use Rattle.std.proofs.Common.{refl, sym, ◌∙◌, ap, subst}
use Rattle.std.proofs.lemmas.List.{append-nil}
use Rattle.std.proofs.lemmas.List.Folds.{list_all-append, list_all-map}
use Rattle.std.proofs.Math.Bool.{or-true, and-true, not-not, or-false}
use mathlib.Core.Bool.{true≢false}
use Rattle.serde_json.specs.Data.{Data, boolean, string, object, Items, no_items, item, Members, no_members, member}
use Rattle.olk_spec.specs.Names.{Name, Path, ◌//◌, down, filter_once, put_if, is_empty, is_among, lookup_name}
use Rattle.olk_spec.specs.World.{World}
use Rattle.olk_spec.specs.Vocabulary.{Keyword, properties, pattern_properties, additional_properties, property_names, required, dependent_required, dependent_schemas, dependencies, property_dependencies, all_of, any_of, one_of, not_keyword, if_keyword, then_keyword, else_keyword, leaf, keyword_named}
use Rattle.olk_spec.specs.Schemas.{at, has, is_array, is_object, is_truth, Schema, Keywords, Part, listed, members, branches, names, texts, read, read_members, parts_at, entries_at, names_at, wholes_at, is_present}
use Rattle.olk_spec.specs.Meanings.{Meaning, Subschema, holds, applied, additional, Asked, asked, matches, matching, restricts, is_declared, is_conditional, if_accepts, if_refuses}
use Rattle.olk_spec.specs.Accepts.{wanted, keyword_accepts, missing, due, accepting}
use Rattle.olk_spec.specs.Faults.{Fault, FalseSchema, Kind}
use Rattle.olk_spec.specs.Reports.{fault_if, required_faults, own}
use Rattle.olk_spec.specs.Tree.{Tree, node, no_tree, Described, is_valid, result, result_node, plain, erring, described, described_fault, trees_from}
use Rattle.olk_spec.specs.Trees.{where_so, declared_trees, pattern_trees, additional_trees, additional_names, matched_names, on_objects, missing_child, branch_trees, asked_trees, additional_child, names_child, due_trees, dependency_tree, any_of_child, one_of_child, case_trees, if_child, keyword_child, fuses_one, fuses_two, declares, has_patterns}
use Rattle.olk_spec.specs.Meaning.{meaning, meaning_step}
use Rattle.olk_spec.specs.Distinct.{DistinctNames, DistinctInItems, DistinctInMembers}
use Rattle.olk_spec.specs.Laws.{Verdict_of_trees}
use Rattle.olk_spec.proofs.Each.{Each, On, Each-implies, Each-filter_once, Each-option, Each-both, On-lookup_name}
use Rattle.olk_spec.proofs.Induction.{sound_answer, EachItem, EachMember, schema_read, GoodSub, GoodEntry, GoodSchema, GoodKeywords, GoodPart, branches_good, entries_at_good, wholes_at_good}
use Rattle.olk_spec.proofs.Applied.{GoodAsked, applied_good}
use Rattle.olk_spec.proofs.Passing.{flat_map-none}
use Rattle.olk_spec.proofs.Truth.{not_or_same, and_first, and_second, or_second, or_from, and_from, same_truth, regroup, dependency_truth, missing_truth, unless_either, among_truth, some_counted, is_among-filter_once, Each-among, each_true, all_true, any_of_either}
use Rattle.olk_spec.proofs.Walks.{neither, Distinct, Distinct-from, Distinct-map, On-lookup_name-named, Each-found, list_all-flat_map, list_all-and, list_all-alike, list_all-true, list_all-where, list_all-filter_once, list_all-inside_out, list_all-other_side}
use Rattle.olk_spec.proofs.Named.{Named, named}
use Rattle.olk_spec.proofs.Reading.{members_read, entries_read, place}
use Rattle.olk_spec.proofs.Verdicts.{is_empty-map, exactly_one, additional_own_row}

-- ---- results

valid_node : (b : Bool) (P Q : Path) (a : Option (List Name)) (es : List Described) (ts : List Tree) → is_valid (result_node P Q b a es (trees_from ts)) ≡ b
valid_node true P Q a es ts = refl
valid_node false P Q a es ts = refl

pub is_valid-result : (P Q : Path) (a : Option (List Name)) (c : Bool) (es : List Described) (ts : List Tree) → is_valid (result P Q a c es ts) ≡ (is_empty es && not c && list_all is_valid ts)
is_valid-result P Q a c es ts = valid_node _ P Q a es ts

pub is_valid-plain : (P Q : Path) (ts : List Tree) → is_valid (plain P Q ts) ≡ list_all is_valid ts
is_valid-plain P Q ts = is_valid-result P Q None false [] ts

pub is_valid-erring : (P Q : Path) (fs : List Fault) → is_valid (erring P Q fs) ≡ is_empty fs
is_valid-erring P Q fs = is_valid-result P Q None false _ [] ∙ and-true _ ∙ and-true _ ∙ is_empty-map described_fault fs

one_valid : (t : Tree) → list_all is_valid (t ∷ []) ≡ is_valid t
one_valid t = and-true _

plain_valid : (P Q : Path) (ts : List Tree) → list_all is_valid (plain P Q ts ∷ []) ≡ list_all is_valid ts
plain_valid P Q ts = one_valid (plain P Q ts) ∙ is_valid-plain P Q ts

erring_valid : (P Q : Path) (fs : List Fault) → list_all is_valid (erring P Q fs ∷ []) ≡ is_empty fs
erring_valid P Q fs = one_valid (erring P Q fs) ∙ is_valid-erring P Q fs

where_valid : (b : Bool) (t : Tree) (c : Bool) → is_valid t ≡ c → list_all is_valid (where_so b t) ≡ (not b || c)
where_valid b t c e = list_all-where is_valid b t ∙ ap (λ d. not b || d) e

none_where : (b : Bool) (k : Kind) (v : Data) (P Q : Path) → is_empty (fault_if b k v P Q) ≡ not b
none_where true k v P Q = refl
none_where false k v P Q = refl

pub none_missing : (ns : List Name) (v : Data) (P Q : Path) → is_empty (required_faults ns v P Q) ≡ is_empty (missing ns v)
none_missing ns v P Q = is_empty-map _ _

both_same : {a b c d : Bool} → a ≡ b → c ≡ d → (a && c) ≡ (b && d)
both_same e f = λ i. e i && f i

-- ---- values

pub Distinct-members : (d : Data) → DistinctNames d → Distinct (members d)
Distinct-members (object ms) h = Distinct-from _ h.0
Distinct-members _ h = tt

Each-listed : (ms : Members) → DistinctInMembers ms → Each (λ m. DistinctNames m.1) (listed ms)
Each-listed no_members h = tt
Each-listed (member n d ms) h = (h.0, Each-listed ms h.1)

pub DistinctNames-members : (d : Data) → DistinctNames d → Each (λ m. DistinctNames m.1) (members d)
DistinctNames-members (object ms) h = Each-listed ms h.1
DistinctNames-members _ h = tt

-- ---- the keywords of one schema object

-- the answer's tree is valid exactly where it accepts
abbrev pub TreeAgrees : Data → Meaning → Type 0
TreeAgrees d m = (v : Data) (P Q : Path) → DistinctNames v → is_valid (m.tree v P Q) ≡ m.accepts v

module _ (W : World) (u : Bool) (S : Keywords Meaning) (h : GoodKeywords TreeAgrees S) (dS : Distinct S) (dE : Each (λ m. Distinct m.1.entries) S) (v : Data) (dv : DistinctNames v) (P Q : Path) where
  -- what the keyword of a name accepts, where it is there
  abbrev accepts_at : Name → Keyword → Bool
  accepts_at k w = list_all (λ p. keyword_accepts W u S k p v w) (parts_at S k)

  abbrev the_properties : Bool
  the_properties = accepts_at (codes "properties") properties

  abbrev the_patterns : Bool
  the_patterns = accepts_at (codes "patternProperties") pattern_properties

  abbrev the_required : Bool
  the_required = accepts_at (codes "required") required

  abbrev the_then : Bool
  the_then = accepts_at (codes "then") then_keyword

  abbrev the_else : Bool
  the_else = accepts_at (codes "else") else_keyword

  dM : Distinct (members v)
  dM = Distinct-members v dv

  fines : Each (λ m. DistinctNames m.1) (members v)
  fines = DistinctNames-members v dv

  entries_distinct : (k : Name) → Distinct (entries_at S k)
  entries_distinct k = by (lookup_name k S) (On-lookup_name _ k S dE)
    where
      by : (o : Option (Part Meaning)) → On (λ p. Distinct p.entries) o → Distinct (flat_map (λ p. p.entries) (option_to_list o))
      by None g = tt
      by (Some p) g = subst Distinct (sym (append-nil p.entries)) g

  -- ---- the walk over the members

  -- a declared name's subschema over the member of that name
  declared_row : list_all is_valid (flat_map (declared_trees W u S v P Q) (members v)) ≡ the_properties
  declared_row =
      rw list_all-flat_map (list_all-alike of_member (members v) fines)
      ∙ sym (list_all-other_side (λ s w. holds s w) es _ (entries_distinct (codes "properties")) dM)
      ∙ list_all-flat_map (λ e. list_all (λ w. holds e.1 w) (at e.0 v)) (λ p. p.entries) (parts_at S (codes "properties"))
      ∙ (λ i. list_all (λ p. of_part p i) (parts_at S (codes "properties")))
    where
      es : List (Name × Subschema)
      es = entries_at S (codes "properties")

      of_member : (m : Name × Data) → DistinctNames m.1 → list_all is_valid (declared_trees W u S v P Q m) ≡ list_all (λ s. holds s m.1) (option_to_list (lookup_name m.0 es))
      of_member m g =
          rw list_all-map (list_all-alike (λ s (c : GoodSub TreeAgrees s). c m.1 _ _ g) (option_to_list (lookup_name m.0 es)) (Each-option _ _ (On-lookup_name _ m.0 es (entries_at_good TreeAgrees S h (codes "properties")))))

      of_part : (p : Part Meaning) → list_all (λ e. list_all (λ w. holds e.1 w) (at e.0 v)) p.entries ≡ keyword_accepts W u S (codes "properties") p v properties
      of_part p = sym (and-true _ ∙ simp (list_all-flat_map, list_all-map))

  -- a pattern's subschema over each member that it matches
  patterns_row : list_all is_valid (flat_map (pattern_trees W u S v P Q) (members v)) ≡ the_patterns
  patterns_row =
      rw list_all-flat_map (list_all-alike of_member (members v) fines)
      ∙ list_all-inside_out (λ m e. not (matches W u e.0 m.0) || holds e.1 m.1) (members v) es
      ∙ list_all-flat_map (λ e. list_all (λ m. not _ || holds e.1 m.1) (members v)) (λ p. p.entries) (parts_at S (codes "patternProperties"))
      ∙ (λ i. list_all (λ p. of_part p i) (parts_at S (codes "patternProperties")))
    where
      es : List (Name × Subschema)
      es = entries_at S (codes "patternProperties")

      of_member : (m : Name × Data) → DistinctNames m.1 → list_all is_valid (pattern_trees W u S v P Q m) ≡ list_all (λ e. not (matches W u e.0 m.0) || holds e.1 m.1) es
      of_member m g =
          rw list_all-map (list_all-alike (λ e (c : GoodEntry TreeAgrees e). c m.1 _ _ g) (filter_once _ es) (Each-filter_once _ _ es (entries_at_good TreeAgrees S h (codes "patternProperties"))))
          ∙ list_all-filter_once _ (λ e. matches W u e.0 m.0) es

      of_part : (p : Part Meaning) → list_all (λ e. list_all (λ m. not (matches W u e.0 m.0) || holds e.1 m.1) (members v)) p.entries ≡ keyword_accepts W u S (codes "patternProperties") p v pattern_properties
      of_part p = sym (and-true _ ∙ simp (list_all-flat_map, list_all-map, list_all-filter_once))

  -- `required` inside another validator
  missing_row : (b : Bool) → list_all is_valid (missing_child W u S v P Q b) ≡ (not b || the_required)
  missing_row b = where_valid _ (erring _ Q _) _ (is_valid-erring (P // codes "required") Q _ ∙ none_missing ns v (P // codes "required") Q)
      ∙ missing_truth b _
      ∙ ap (λ c. not b || c) (by (lookup_name (codes "required") S))
    where
      ns : List Name
      ns = names_at S (codes "required")

      by : (o : Option (Part Meaning)) → is_empty (missing (flat_map names (option_to_list o)) v) ≡ list_all (λ p. keyword_accepts W u S (codes "required") p v required) (option_to_list o)
      by None = refl
      by (Some p) = ap (λ xs. is_empty (missing xs v)) (append-nil _) ∙ sym (and-true _)

  -- ---- the child of one keyword

  module _ (k : Name) (p : Part Meaning) (g : GoodPart TreeAgrees p) where
    asked_row : (w : Keyword) → list_all is_valid (asked_trees W u S v P Q k p w) ≡ list_all (λ a. holds a.sub a.value) (applied W u S k p v w)
    asked_row w =
        rw list_all-map (list_all-alike (λ a (c : GoodAsked TreeAgrees DistinctNames a). c.0 a.value (down P a.in_schema) (down Q a.in_instance) c.1) (applied W u S k p v w) (applied_good TreeAgrees DistinctNames W u S k p g v dv fines w))

    asked_child : (w : Keyword) → list_all is_valid (plain (P // k) Q (asked_trees W u S v P Q k p w) ∷ []) ≡ (list_all (λ a. holds a.sub a.value) (applied W u S k p v w) && true)
    asked_child w = plain_valid (P // k) Q (asked_trees W u S v P Q k p w) ∙ asked_row w ∙ sym (and-true _)

    abbrev is_additional : Name → Bool
    is_additional n = not (is_declared S n) && is_empty (matching S W u n)

    additional_row : list_all is_valid (flat_map (additional_trees W u S v P Q k p) (members v)) ≡ list_all (λ a. holds a.sub a.value) (applied W u S k p v additional_properties)
    additional_row =
        rw list_all-flat_map (list_all-alike of_member (members v) (Each-both _ _ (members v) fines (Each-among (members v))) ∙ sym asked_here)
      where
        asked_here : list_all (λ a. holds a.sub a.value) (applied W u S k p v additional_properties) ≡ list_all (λ m. not (is_additional m.0) || (not (is_object p.whole.schema) || holds p.whole m.1)) (members v)
        asked_here = simp (list_all-flat_map, list_all-where, list_all-filter_once)

        of_member : (m : Name × Data) → DistinctNames m.1 × (is_among m.0 (map (λ e. e.0) (members v)) ≡ true) → list_all is_valid (additional_trees W u S v P Q k p m) ≡ (not (is_additional m.0) || (not (is_object p.whole.schema) || holds p.whole m.1))
        of_member m c = where_valid _ _ _ (g.0 m.1 _ _ c.0)
            ∙ ap (λ b. not (is_object p.whole.schema && b) || holds p.whole m.1) (is_among-filter_once is_additional m.0 _ ∙ ap (λ b. is_additional m.0 && b) c.1)
            ∙ among_truth (is_object p.whole.schema) (is_additional m.0) _

    -- the declared, the matching and the additional schemas, member by member
    members_row : list_all is_valid (flat_map (λ m. declared_trees W u S v P Q m ++ pattern_trees W u S v P Q m ++ additional_trees W u S v P Q k p m) (members v)) ≡ ((the_properties && the_patterns) && list_all (λ a. holds a.sub a.value) (applied W u S k p v additional_properties))
    members_row = simp (list_all-flat_map, list_all-append, list_all-and) (simp (list_all-flat_map, list_all-and) at (both_same (both_same declared_row patterns_row) additional_row))

    additional_child_row : list_all is_valid (additional_child W u S v P Q k p) ≡ (not (restricts S) || (keyword_accepts W u S k p v additional_properties && ((the_properties && the_patterns) && (not (fuses_one S) || the_required))))
    additional_child_row = where_valid (restricts S) _ _
        (is_valid-result (P // k) Q annotation false (described (own W u S k p v P Q additional_properties)) (walked ++ matched_child ++ missing_child W u S v P Q (fuses_one S))
        ∙ (λ i. (own_part i && true) && children i)
        ∙ regroup (wanted W u S k p v additional_properties) the_properties the_patterns _ (not (fuses_one S) || the_required))
      where
        annotation : Option (List Name)
        annotation = on_objects W u S v P Q (is_object p.whole.schema && (cond (declares S) (has_patterns S) (not (has_patterns S)) || not (is_empty (additional_names W u S v P Q)))) (additional_names W u S v P Q)

        own_part : is_empty (described (own W u S k p v P Q additional_properties)) ≡ wanted W u S k p v additional_properties
        own_part = is_empty-map described_fault _ ∙ sym (additional_own_row W u S k p v P Q)

        matched_child : List Tree
        matched_child = where_so (has_patterns S && not (declares S) && not (is_empty (matched_names W u S v P Q))) (node (P // codes "patternProperties") Q true (Some (matched_names W u S v P Q)) [] no_tree)

        matched_row : list_all is_valid matched_child ≡ true
        matched_row = where_valid _ _ true refl ∙ or-true (not _)

        walked : List Tree
        walked = flat_map (λ m. declared_trees W u S v P Q m ++ pattern_trees W u S v P Q m ++ additional_trees W u S v P Q k p m) (members v)

        children : list_all is_valid (walked ++ matched_child ++ missing_child W u S v P Q (fuses_one S)) ≡ ((((the_properties && the_patterns) && list_all (λ a. holds a.sub a.value) (applied W u S k p v additional_properties)) && true) && (not (fuses_one S) || the_required))
        children = rw (list_all-append, list_all-append) (both_same (both_same members_row matched_row) (missing_row (fuses_one S)))

    names_row : list_all is_valid (names_child W u S v P Q k p) ≡ keyword_accepts W u S k p v property_names
    names_row =
        list_all-append is_valid (where_so _ _) (where_so _ _)
        ∙ (λ i. where_valid (is_object p.whole.schema) (plain (P // k) Q name_trees) (list_all (λ m. holds p.whole _) (members v)) (is_valid-plain _ Q name_trees ∙ names_valid) i
        && where_valid (is_truth false p.whole.schema) (erring (P // k) Q none_allowed) (is_empty _) (is_valid-erring _ Q none_allowed ∙ none_where _ FalseSchema v _ Q ∙ not-not _) i)
      where
        name_trees : List Tree
        name_trees = map (λ m. p.whole.answer.tree (string m.0) (P // k) Q) (members v)

        none_allowed : List Fault
        none_allowed = fault_if (not (is_empty (members v))) FalseSchema v (P // k) Q

        names_valid : list_all is_valid name_trees ≡ list_all (λ m. holds p.whole (string m.0)) (members v)
        names_valid = list_all-map is_valid _ (members v) ∙ (λ i. list_all (λ m. g.0 (string m.0) (P // k) Q tt i) (members v))

    due_row : list_all is_valid (due_trees W u S v P Q k p) ≡ list_all (λ e. is_empty (missing e.1 v)) (due p v)
    due_row = list_all-map is_valid (λ e. erring _ Q _) (due p v)
        ∙ (λ i. list_all (λ e. (is_valid-erring (P // k) Q _ ∙ none_missing e.1 v (P // k) Q) i) (due p v))

    dependencies_row : list_all is_valid (map (dependency_tree W u S v P Q k p) (filter_once (λ e. has e.0 v) p.entries)) ≡ keyword_accepts W u S k p v dependencies
    dependencies_row =
        rw (list_all-map, list_all-filter_once) (list_all-alike of_entry p.entries g.1)
        ∙ list_all-and _ _ p.entries
        ∙ (λ i. sym subschemas i && sym name_lists_row i)
      where
        of_valid : (b : Bool) (s t : Tree) → is_valid (cond b s t) ≡ cond b (is_valid s) (is_valid t)
        of_valid true s t = refl
        of_valid false s t = refl

        of_entry : (e : Name × Subschema) → GoodEntry TreeAgrees e → (not (has e.0 v) || is_valid (dependency_tree W u S v P Q k p e)) ≡ ((not (has e.0 v && not (is_array e.1.schema)) || holds e.1 v) && (not (is_array e.1.schema) || (not (has e.0 v) || is_empty (missing (texts e.1.schema) v))))
        of_entry e c = ap (λ b. not (has e.0 v) || b) (of_valid (is_array e.1.schema) _ _)
            ∙ dependency_truth (has e.0 v) _ _ _ _ _ (is_valid-erring (P // k) Q (required_faults _ v (P // k) Q) ∙ none_missing _ v _ Q) (c v (P // k // e.0) Q dv)

        subschemas : list_all (λ a. holds a.sub a.value) (applied W u S k p v dependencies) ≡ list_all (λ e. not (has e.0 v && not (is_array e.1.schema)) || holds e.1 v) p.entries
        subschemas = simp (list_all-map, list_all-filter_once)

        name_lists_row : list_all (λ e. is_empty (missing e.1 v)) (due p v) ≡ list_all (λ e. not (is_array e.1.schema) || (not (has e.0 v) || is_empty (missing (texts e.1.schema) v))) p.entries
        name_lists_row = simp (list_all-filter_once, list_all-map)

    -- the branches that accept
    branches_row : list_all is_valid (branch_trees W u S v P Q k p (λ s. holds s v)) ≡ true
    branches_row =
        rw (list_all-map, list_all-filter_once) (list_all-alike (λ b (c : GoodEntry TreeAgrees b). ap (λ a. not (holds b.1 v) || a) (c v (P // k // b.0) Q dv) ∙ not_or_same (holds b.1 v)) (branches p) (branches_good TreeAgrees p g) ∙ list_all-true (branches p))

    any_of_row : is_valid (any_of_child W u S v P Q k p) ≡ not (accepting p v == 0)
    any_of_row = by (accepting p v == 0)
      where
        by : (b : Bool) → is_valid (cond b (result (P // k) Q None true [] (branch_trees W u S v P Q k p (λ s. true))) (plain (P // k) Q (branch_trees W u S v P Q k p (λ s. holds s v)))) ≡ not b
        by true = is_valid-result (P // k) Q None true [] (branch_trees W u S v P Q k p (λ s. true))
        by false = is_valid-plain (P // k) Q (branch_trees W u S v P Q k p (λ s. holds s v)) ∙ branches_row

    one_of_row : is_valid (one_of_child W u S v P Q k p) ≡ (accepting p v == 1)
    one_of_row = by (accepting p v == 0) ∙ sym (exactly_one (accepting p v))
      where
        told : List Described
        told = put_if (nat_lt 1 (accepting p v)) (codes "oneOf", codes "more than one subschema succeeded", false) []

        none_told : (b : Bool) (d : Described) → is_empty (put_if b d []) ≡ not b
        none_told true d = refl
        none_told false d = refl

        by : (b : Bool) → is_valid (cond b (result (P // k) Q None true [] (branch_trees W u S v P Q k p (λ s. true))) (result (P // k) Q None false told (branch_trees W u S v P Q k p (λ s. holds s v)))) ≡ (not b && not (nat_lt 1 (accepting p v)))
        by true = is_valid-result (P // k) Q None true [] (branch_trees W u S v P Q k p (λ s. true))
        by false = is_valid-result (P // k) Q None false told (branch_trees W u S v P Q k p (λ s. holds s v))
            ∙ (λ i. (none_told (nat_lt 1 (accepting p v)) (codes "oneOf", codes "more than one subschema succeeded", false) i && true) && branches_row i)
            ∙ and-true _ ∙ and-true _

    -- ---- `if`, where this is it

    module _ (there : lookup_name (codes "if") S ≡ Some p) where
      accepts_here : if_accepts S v ≡ holds p.whole v
      accepts_here = ap (λ o. list_any (λ s. holds s v) (map (λ q. q.whole) (option_to_list o))) there ∙ or-false (holds p.whole v)

      refuses_here : if_refuses S v ≡ not (holds p.whole v)
      refuses_here = ap (λ o. list_any (λ s. not (holds s v)) (map (λ q. q.whole) (option_to_list o))) there ∙ or-false (not (holds p.whole v))

      case_row : (b : Bool) (n : Name) → list_all is_valid (case_trees W u S v P Q k p b n) ≡ list_all (λ q. not b || holds q.whole v) (parts_at S n)
      case_row b n =
          rw list_all-flat_map (list_all-alike (λ s (c : GoodSub TreeAgrees s). where_valid b (s.answer.tree v (P // n) Q) (holds s v) (c v (P // n) Q dv)) (wholes_at S n) (wholes_at_good TreeAgrees S h n))
          ∙ list_all-map (λ s. not b || holds s v) (λ q. q.whole) (parts_at S n)

      one_asked : (b c : Bool) (n : Name) (q : Part Meaning) → c ≡ b → (list_all (λ a. holds a.sub a.value) (put_if c (asked q.whole v (n ∷ []) []) []) && true) ≡ (not b || holds q.whole v)
      one_asked b c n q e = and-true _ ∙ list_all-where (λ a. holds a.sub a.value) c (asked q.whole v (n ∷ []) []) ∙ ap (λ d. not d || holds q.whole v) e

      if_row : list_all is_valid (if_child W u S v P Q k p) ≡ (not (is_conditional S) || (the_then && the_else))
      if_row = where_valid (is_conditional S) _ _
          (is_valid-plain (P // k) Q (itself ++ thens ++ elses) ∙ rw (list_all-append, list_all-append) (both_same (both_same itself_row then_row) else_row))
        where
          itself : List Tree
          itself = where_so (holds p.whole v) (p.whole.answer.tree v (P // k) Q)

          thens : List Tree
          thens = case_trees W u S v P Q k p (holds p.whole v) (codes "then")

          elses : List Tree
          elses = case_trees W u S v P Q k p (not (holds p.whole v)) (codes "else")

          itself_row : list_all is_valid itself ≡ true
          itself_row = where_valid _ _ _ (g.0 v _ Q dv) ∙ not_or_same (holds p.whole v)

          then_row : list_all is_valid thens ≡ the_then
          then_row = case_row (holds p.whole v) (codes "then") ∙ (λ i. list_all (λ q. sym (one_asked (holds p.whole v) (if_accepts S v) (codes "then") q accepts_here) i) (parts_at S (codes "then")))

          else_row : list_all is_valid elses ≡ the_else
          else_row = case_row (not (holds p.whole v)) (codes "else") ∙ (λ i. list_all (λ q. sym (one_asked (not (holds p.whole v)) (if_refuses S v) (codes "else") q refuses_here) i) (parts_at S (codes "else")))

  -- the keyword that a name stands for, where it is this one
  here : (name : Name) (w : Keyword) (k : Name) (p : Part Meaning) → k ≡ name → lookup_name k S ≡ Some p → accepts_at name w ≡ keyword_accepts W u S k p v w
  here name w k p n there = ap (λ a. accepts_at a w) (sym n) ∙ ap (λ o. list_all (λ q. keyword_accepts W u S k q v w) (option_to_list o)) there ∙ and-true _

  -- ---- what a keyword shows, by what the keywords accept

  abbrev shown : Name → Part Meaning → Keyword → Bool
  shown k p properties = restricts S || (the_properties && (not (fuses_two S) || the_required))
  shown k p pattern_properties = restricts S || the_patterns
  shown k p additional_properties = not (restricts S) || (keyword_accepts W u S k p v additional_properties && ((the_properties && the_patterns) && (not (fuses_one S) || the_required)))
  shown k p required = (fuses_one S || fuses_two S) || keyword_accepts W u S k p v required
  shown k p if_keyword = not (is_conditional S) || (the_then && the_else)
  shown k p then_keyword = true
  shown k p else_keyword = true
  shown k p w = keyword_accepts W u S k p v w

  module _ (k : Name) (p : Part Meaning) (g : GoodPart TreeAgrees p) (there : lookup_name k S ≡ Some p) where
    keyword_row : (w : Keyword) → Named k w → list_all is_valid (keyword_child W u S v P Q k p w) ≡ shown k p w
    keyword_row properties n = where_valid (not (restricts S)) _ _ (is_valid-result (P // k) Q annotation false [] (walked ++ missing_child W u S v P Q (fuses_two S)) ∙ rw list_all-append (both_same declared_row (missing_row (fuses_two S))))
        ∙ ap (λ b. b || (the_properties && (not (fuses_two S) || the_required))) (not-not (restricts S))
      where
        annotation : Option (List Name)
        annotation = on_objects W u S v P Q true (map (λ m. m.0) (filter_once (λ m. is_declared S m.0) (members v)))

        walked : List Tree
        walked = flat_map (declared_trees W u S v P Q) (members v)
    keyword_row pattern_properties n = where_valid (not (restricts S)) _ _ (is_valid-result (P // k) Q annotation false [] (asked_trees W u S v P Q k p pattern_properties) ∙ asked_row k p g pattern_properties ∙ patterns_here)
        ∙ ap (λ b. b || the_patterns) (not-not (restricts S))
      where
        annotation : Option (List Name)
        annotation = on_objects W u S v P Q true (flat_map (λ e. map (λ m. m.0) (filter_once (λ m. matches W u e.0 m.0) (members v))) p.entries)

        patterns_here : list_all (λ a. holds a.sub a.value) (applied W u S k p v pattern_properties) ≡ the_patterns
        patterns_here = sym (and-true _) ∙ sym (here (codes "patternProperties") pattern_properties k p n there)
    keyword_row additional_properties n = additional_child_row k p g
    keyword_row property_names n = names_row k p g
    keyword_row required n = where_valid _ _ _ (is_valid-erring (P // k) Q (required_faults (names p) v (P // k) Q) ∙ none_missing (names p) v (P // k) Q) ∙ unless_either (fuses_one S) (fuses_two S) _
    keyword_row dependent_required n = plain_valid (P // k) Q (due_trees W u S v P Q k p) ∙ due_row k p g
    keyword_row dependent_schemas n = asked_child k p g dependent_schemas
    keyword_row dependencies n = plain_valid (P // k) Q (map (dependency_tree W u S v P Q k p) (filter_once _ p.entries)) ∙ dependencies_row k p g
    keyword_row property_dependencies n = asked_child k p g property_dependencies
    keyword_row all_of n = asked_child k p g all_of
    keyword_row any_of n = one_valid (any_of_child W u S v P Q k p) ∙ any_of_row k p g ∙ sym (some_counted (λ s. holds s v) p.items)
    keyword_row one_of n = one_valid (one_of_child W u S v P Q k p) ∙ one_of_row k p g
    keyword_row not_keyword n = erring_valid _ Q _ ∙ none_where _ _ v _ Q
    keyword_row if_keyword n = if_row k p g (subst (λ a. lookup_name a S ≡ Some p) n there)
    keyword_row leaf n = and-true _ ∙ is_empty-map described_fault _ ∙ is_empty-map _ _
    keyword_row _ n = refl

  -- ---- all keywords together

  module _ (shows : (n : Name) → On (λ p. shown n p (keyword_named W n) ≡ true) (lookup_name n S)) where
    absent : (k : Name) (w : Keyword) → lookup_name k S ≡ None → accepts_at k w ≡ true
    absent k w e = ap (λ o. list_all (λ p. keyword_accepts W u S k p v w) (option_to_list o)) e

    -- where there is a table or a closed object, `additionalProperties` shows the others
    by_additional : restricts S ≡ true → ((the_properties && the_patterns) && (not (fuses_one S) || the_required)) ≡ true
    by_additional r = by (lookup_name (codes "additionalProperties") S) refl (shows (codes "additionalProperties"))
      where
        by : (o : Option (Part Meaning)) → lookup_name (codes "additionalProperties") S ≡ o → On (λ p. shown (codes "additionalProperties") p additional_properties ≡ true) o → ((the_properties && the_patterns) && (not (fuses_one S) || the_required)) ≡ true
        by None e t = absurd (true≢false (sym r ∙ ap (λ o. list_any (λ s. is_truth false s.schema || is_object s.schema) (map (λ p. p.whole) (option_to_list o))) e))
        by (Some p) e t = and_second _ _ (or_second _ _ t (ap not r))

    properties_true : the_properties ≡ true
    properties_true = by (restricts S) refl (lookup_name (codes "properties") S) refl (shows (codes "properties"))
      where
        by : (r : Bool) → restricts S ≡ r → (o : Option (Part Meaning)) → lookup_name (codes "properties") S ≡ o → On (λ p. shown (codes "properties") p properties ≡ true) o → the_properties ≡ true
        by true r o e t = and_first _ _ (and_first _ _ (by_additional r))
        by false r None e t = absent (codes "properties") properties e
        by false r (Some p) e t = and_first _ _ (or_second _ _ t r)

    patterns_true : the_patterns ≡ true
    patterns_true = by (restricts S) refl (lookup_name (codes "patternProperties") S) refl (shows (codes "patternProperties"))
      where
        by : (r : Bool) → restricts S ≡ r → (o : Option (Part Meaning)) → lookup_name (codes "patternProperties") S ≡ o → On (λ p. shown (codes "patternProperties") p pattern_properties ≡ true) o → the_patterns ≡ true
        by true r o e t = and_second _ _ (and_first _ _ (by_additional r))
        by false r None e t = absent (codes "patternProperties") pattern_properties e
        by false r (Some p) e t = or_second _ the_patterns t r

    by_one : fuses_one S ≡ true → the_required ≡ true
    by_one e = or_second (not _) the_required (and_second (the_properties && the_patterns) _ (by_additional restricted)) (ap not e)
      where
        restricted : restricts S ≡ true
        restricted = any_of_either (λ s. is_truth false s.schema) _ (wholes_at S (codes "additionalProperties")) (and_second (declares S) _ (and_first _ _ (and_first _ _ e)))

    by_two : fuses_two S ≡ true → the_required ≡ true
    by_two e = by (lookup_name (codes "properties") S) refl (shows (codes "properties"))
      where
        unrestricted : (declares S && not (restricts S)) ≡ true
        unrestricted = and_first _ _ (and_first _ _ (and_first _ _ e))

        by : (o : Option (Part Meaning)) → lookup_name (codes "properties") S ≡ o → On (λ p. shown (codes "properties") p properties ≡ true) o → the_required ≡ true
        by None n t = absurd (true≢false (sym (and_first _ _ unrestricted) ∙ ap is_some n))
        by (Some p) n t = or_second _ _ (and_second _ _ (or_second _ _ t (sym (not-not (restricts S)) ∙ ap not (and_second (declares S) _ unrestricted)))) (ap not e)

    required_true : the_required ≡ true
    required_true = by (fuses_one S) refl (fuses_two S) refl (lookup_name (codes "required") S) refl (shows (codes "required"))
      where
        by : (a : Bool) → fuses_one S ≡ a → (b : Bool) → fuses_two S ≡ b → (o : Option (Part Meaning)) → lookup_name (codes "required") S ≡ o → On (λ p. shown (codes "required") p required ≡ true) o → the_required ≡ true
        by true a b c o e t = by_one a
        by false a true c o e t = by_two c
        by false a false c None e t = absent (codes "required") required e
        by false a false c (Some p) e t = here (codes "required") required (codes "required") p refl e ∙ or_second _ _ t (λ i. a i || c i)

    -- `then` and `else`, the one that n names, where `if` is there or is not
    module _ (n : Name) (w : Keyword) (asks_if : Bool) (idle : asks_if ≡ false → (p : Part Meaning) → keyword_accepts W u S n p v w ≡ true) where
      case_true : (lookup_name (codes "if") S ≡ None → asks_if ≡ false) → ((q : Part Meaning) → lookup_name (codes "if") S ≡ Some q → (p : Part Meaning) → lookup_name n S ≡ Some p → accepts_at n w ≡ true) → accepts_at n w ≡ true
      case_true without beside = by (lookup_name n S) refl (lookup_name (codes "if") S) refl
        where
          by : (o : Option (Part Meaning)) → lookup_name n S ≡ o → (c : Option (Part Meaning)) → lookup_name (codes "if") S ≡ c → accepts_at n w ≡ true
          by None e c f = absent n w e
          by (Some p) e None f = ap (λ o. list_all (λ q. keyword_accepts W u S n q v w) (option_to_list o)) e ∙ and-true _ ∙ idle (without f) p
          by (Some p) e (Some q) f = beside q f p e

    nothing_asked : (b : Bool) (a : Asked) → b ≡ false → (list_all (λ x. holds x.sub x.value) (put_if b a []) && true) ≡ true
    nothing_asked b a e = ap (λ c. list_all (λ x. holds x.sub x.value) (put_if c a []) && true) e

    both_cases : (q : Part Meaning) → lookup_name (codes "if") S ≡ Some q → is_conditional S ≡ true → (the_then && the_else) ≡ true
    both_cases q e c = or_second (not _) _ (subst (On (λ p. shown (codes "if") p if_keyword ≡ true)) e (shows (codes "if"))) (ap not c)

    then_true : the_then ≡ true
    then_true = case_true (codes "then") then_keyword (if_accepts S v) (λ e p. nothing_asked _ _ e)
        (λ e. ap (λ o. list_any (λ s. holds s v) (map (λ p. p.whole) (option_to_list o))) e)
        (λ q e p f. and_first the_then the_else (both_cases q e (λ i. is_some (e i) && (is_some (f i) || is_present S (codes "else")))))

    else_true : the_else ≡ true
    else_true = case_true (codes "else") else_keyword (if_refuses S v) (λ e p. nothing_asked _ _ e)
        (λ e. ap (λ o. list_any (λ s. not (holds s v)) (map (λ p. p.whole) (option_to_list o))) e)
        (λ q e p f. and_second the_then the_else (both_cases q e ((λ i. is_some (e i) && (is_present S (codes "then") || is_some (f i))) ∙ or-true (is_present S (codes "then")))))

    -- a keyword at `additionalProperties` that neither closes nor restricts asks nothing
    open_object : (k : Name) (p : Part Meaning) (o f : Bool) → o ≡ false → f ≡ false → (list_all (λ a. holds a.sub a.value) (flat_map (λ m. put_if o (asked p.whole m.1 (k ∷ []) (m.0 ∷ [])) []) (additional S W u v)) && (not f || is_empty (additional S W u v))) ≡ true
    open_object k p o f e c = (λ i. list_all (λ a. holds a.sub a.value) (flat_map (λ m. put_if (e i) (asked p.whole m.1 (k ∷ []) (m.0 ∷ [])) []) (additional S W u v)) && (not (c i) || is_empty (additional S W u v)))
        ∙ and-true _ ∙ ap (list_all (λ a. holds a.sub a.value)) (flat_map-none (additional S W u v))

    additional_true : (k : Name) (p : Part Meaning) → k ≡ codes "additionalProperties" → lookup_name k S ≡ Some p → shown k p additional_properties ≡ true → keyword_accepts W u S k p v additional_properties ≡ true
    additional_true k p n there t = by (restricts S) refl
      where
        here_restricts : restricts S ≡ (is_truth false p.whole.schema || is_object p.whole.schema)
        here_restricts = ap (λ o. list_any (λ s. is_truth false s.schema || is_object s.schema) (map (λ q. q.whole) (option_to_list o))) (subst (λ a. lookup_name a S ≡ Some p) n there) ∙ or-false _

        by : (r : Bool) → restricts S ≡ r → keyword_accepts W u S k p v additional_properties ≡ true
        by true r = and_first _ _ (or_second (not (restricts S)) _ t (ap not r))
        by false r = let closed_and_restricted = neither (is_truth false p.whole.schema) (is_object p.whole.schema) (sym here_restricts ∙ r) in
            open_object k p _ _ closed_and_restricted.1 closed_and_restricted.0

    accepts_where_shown : (k : Name) (p : Part Meaning) (w : Keyword) → Named k w → lookup_name k S ≡ Some p → shown k p w ≡ true → keyword_accepts W u S k p v w ≡ true
    accepts_where_shown k p properties n there t = sym (here (codes "properties") properties k p n there) ∙ properties_true
    accepts_where_shown k p pattern_properties n there t = sym (here (codes "patternProperties") pattern_properties k p n there) ∙ patterns_true
    accepts_where_shown k p additional_properties n there t = additional_true k p n there t
    accepts_where_shown k p required n there t = sym (here (codes "required") required k p n there) ∙ required_true
    accepts_where_shown k p if_keyword n there t = refl
    accepts_where_shown k p then_keyword n there t = sym (here (codes "then") then_keyword k p n there) ∙ then_true
    accepts_where_shown k p else_keyword n there t = sym (here (codes "else") else_keyword k p n there) ∙ else_true
    accepts_where_shown k p _ n there t = t

  module _ (accepted : (n : Name) → On (λ p. keyword_accepts W u S n p v (keyword_named W n) ≡ true) (lookup_name n S)) where
    at_true : (n : Name) → accepts_at n (keyword_named W n) ≡ true
    at_true n = by (lookup_name n S) (accepted n)
      where
        by : (o : Option (Part Meaning)) → On (λ p. keyword_accepts W u S n p v (keyword_named W n) ≡ true) o → list_all (λ p. keyword_accepts W u S n p v (keyword_named W n)) (option_to_list o) ≡ true
        by None t = refl
        by (Some p) t = and-true _ ∙ t

    shown_where_accepts : (k : Name) (p : Part Meaning) (w : Keyword) → keyword_accepts W u S k p v w ≡ true → shown k p w ≡ true
    shown_where_accepts k p properties t = or_from (restricts S) _ (and_from the_properties _ (at_true (codes "properties")) (or_from _ the_required (at_true (codes "required"))))
    shown_where_accepts k p pattern_properties t = or_from _ the_patterns (at_true (codes "patternProperties"))
    shown_where_accepts k p additional_properties t = or_from (not _) _ (and_from _ _ t (and_from (the_properties && the_patterns) _ (and_from the_properties the_patterns (at_true (codes "properties")) (at_true (codes "patternProperties"))) (or_from _ the_required (at_true (codes "required")))))
    shown_where_accepts k p required t = or_from _ _ t
    shown_where_accepts k p if_keyword t = or_from (not _) _ (and_from the_then the_else (at_true (codes "then")) (at_true (codes "else")))
    shown_where_accepts k p then_keyword t = refl
    shown_where_accepts k p else_keyword t = refl
    shown_where_accepts k p _ t = t

  abbrev shows_each : Name × Part Meaning → Bool
  shows_each m = shown m.0 m.1 (keyword_named W m.0)

  abbrev accepts_each : Name × Part Meaning → Bool
  accepts_each m = keyword_accepts W u S m.0 m.1 v (keyword_named W m.0)

  children_row : list_all is_valid (flat_map (λ m. keyword_child W u S v P Q m.0 m.1 (keyword_named W m.0)) S) ≡ list_all shows_each S
  children_row =
      rw list_all-flat_map (list_all-alike (λ m (c : GoodPart TreeAgrees m.1 × (lookup_name m.0 S ≡ Some m.1)). keyword_row m.0 m.1 c.0 c.1 (keyword_named W m.0) (named m.0 W)) S (Each-both _ _ S h (Each-found S dS)))

  shown_is_accepted : list_all shows_each S ≡ list_all accepts_each S
  shown_is_accepted = same_truth _ _
      (λ e. let t : Each (λ m. shows_each m ≡ true) S = each_true shows_each S e in
      all_true accepts_each S (Each-implies _ _ (λ m (c : (shows_each m ≡ true) × (lookup_name m.0 S ≡ Some m.1)). accepts_where_shown (λ n. On-lookup_name-named (λ k p. shown k p (keyword_named W k) ≡ true) n S t) m.0 m.1 (keyword_named W m.0) (named m.0 W) c.1 c.0) S (Each-both _ _ S t (Each-found S dS))))
      (λ e. let t : Each (λ m. accepts_each m ≡ true) S = each_true accepts_each S e in
      all_true shows_each S (Each-implies _ _ (λ m. shown_where_accepts (λ n. On-lookup_name-named (λ k p. keyword_accepts W u S k p v (keyword_named W k) ≡ true) n S t) m.0 m.1 (keyword_named W m.0)) S t))

  pub object_row : is_valid (plain P Q (flat_map (λ m. keyword_child W u S v P Q m.0 m.1 (keyword_named W m.0)) S)) ≡ list_all accepts_each S
  object_row = is_valid-plain P Q (flat_map (λ m. keyword_child W u S v P Q m.0 m.1 (keyword_named W m.0)) S) ∙ children_row ∙ shown_is_accepted

-- ---- the recursion

pub items_distinct : (ds : Items) → DistinctInItems ds → EachItem DistinctNames ds
items_distinct no_items h = tt
items_distinct (item d ds) h = (h.0, items_distinct ds h.1)

pub members_distinct : (ms : Members) → DistinctInMembers ms → EachMember DistinctNames ms
members_distinct no_members h = tt
members_distinct (member n d ms) h = (h.0, members_distinct ms h.1)

-- the keywords of a schema object, and the entries of each, whatever a recursion answers
module _ {X : Type 0} (step : Schema X → X) where
  pub keywords_distinct : (ms : Members) → DistinctNames (object ms) → Distinct (read_members step ms)
  keywords_distinct ms h = subst Distinct (sym (members_read step ms)) (Distinct-map (read step) (listed ms) (Distinct-from (listed ms) h.0))

  pub entries_distinct_in : (ms : Members) → DistinctInMembers ms → Each (λ m. Distinct m.1.entries) (read_members step ms)
  entries_distinct_in no_members h = tt
  entries_distinct_in (member n d ms) h = (subst Distinct (sym (entries_read step d)) (Distinct-map (place step) (members d) (Distinct-members d h.0)), entries_distinct_in ms h.1)

module _ (W : World) (u : Bool) where
  abbrev step : Schema Meaning → Meaning
  step = meaning_step W u

  keep : (d : Data) → DistinctNames d → GoodSchema TreeAgrees (schema_read step d) → TreeAgrees d (step (schema_read step d))
  keep (boolean b) s h v P Q dv = is_valid-erring P Q (fault_if (not b) FalseSchema v P Q) ∙ none_where (not b) FalseSchema v P Q ∙ not-not b
  keep (object ms) s h v P Q dv = object_row W u (read_members step ms) h (keywords_distinct step ms s) (entries_distinct_in step ms s.1) v dv P Q
  keep _ s h v P Q dv = refl

pub verdict_of_trees : Verdict_of_trees
unfolding meaning
verdict_of_trees W u S v P Q s dv = sound_answer TreeAgrees DistinctNames items_distinct (λ ms h. members_distinct ms h.1) (meaning_step W u) (keep W u) S s v P Q dv
