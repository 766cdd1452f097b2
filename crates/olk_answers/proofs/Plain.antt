-- Where schema and value have no fraction, no fault prints one, and no error of a tree does.
use Rattle.std.specs.Prelude.{⊤, Contains}
use Rattle.std.proofs.Common.{◌≡◌, Bool, true, false, not, ◌&&◌, ◌==◌, nat_lt, List, [], ◌∷◌, ◌++◌, map, refl, ◌∙◌, codes, cond, Option, None}
use Rattle.std.specs.List.{flat_map}
use Rattle.serde_json.specs.Data.{Data, boolean, string, object, Members, no_members, member}
use Rattle.serde_json.specs.Written.{has_float, members_have_float}
use Rattle.olk_spec.specs.Names.{Name, Path, ◌//◌, down, filter_once, put_if, is_empty}
use Rattle.olk_spec.specs.World.{World}
use Rattle.olk_spec.specs.Vocabulary.{Keyword, properties, pattern_properties, additional_properties, property_names, required, dependent_required, dependent_schemas, dependencies, property_dependencies, all_of, any_of, one_of, not_keyword, if_keyword, leaf, keyword_named}
use Rattle.olk_spec.specs.Schemas.{keywords, Part, Keywords, members, listed, is_object, is_array, is_truth, texts, names, names_at, read_members}
use Rattle.olk_spec.specs.Meanings.{Meaning, Subschema, holds, additional, is_declared, matches}
use Rattle.olk_spec.specs.Meaning.{meaning_step, meaning, report, tree, IsReport}
use Rattle.olk_spec.specs.Accepts.{due, accepting}
use Rattle.olk_spec.specs.Faults.{Fault, fault, Kind, AdditionalProperties, AnyOf, OneOfNotValid, OneOfMultipleValid, Not, FalseSchema, PropertyNames, Leaf, IsLike, like, IsLikeKind, like_names, ◌∼◌, like_empty, like_next, like_swap, like_through}
use Rattle.olk_spec.specs.Reports.{fault_if, required_faults, unexpected_faults, wrapped, branch_faults, has_neighbour, own, keyword_report, cut, cut_kind}
use Rattle.olk_spec.specs.Texts.{prints_fraction, kind_prints_fraction}
use Rattle.olk_spec.specs.Tree.{Tree, node, leaf_node, Trees, no_tree, and_tree, Described, described, result_node, result, plain, erring, trees_from, errors, errors_of}
use Rattle.olk_spec.specs.Trees.{declared_trees, pattern_trees, missing_child, additional_trees, branch_trees, asked_trees, properties_child, patterns_child, additional_child, names_child, dependency_tree, any_of_child, one_of_child, case_trees, if_child, keyword_child, where_so, on_objects, fuses_one, fuses_two}
use Rattle.olk_spec.proofs.Each.{Each, Each-append, Each-filter_once, Each-any, Each-map, Each-flat_map, Each-implies, Each-option, On-lookup_name}
use Rattle.olk_spec.proofs.Induction.{schema_read, GoodSub, GoodEntry, GoodPart, GoodKeywords, GoodSchema, sound_answer, branches_good, entries_at_good, wholes_at_good}
use Rattle.olk_spec.proofs.Applied.{GoodAsked, applied_good}
use Rattle.olk_answers.specs.Evaluated.{IsPromised}
use Rattle.olk_spec.proofs.Walks.{neither}
use Rattle.olk_answers.proofs.Fractions.{IsPlain, PrintsNone, put_prints, each_item, each_member, each_contained}

abbrev ReportsNone : Meaning → Type 0
ReportsNone m = (v : Data) → IsPlain v → (P Q : Path) → Each PrintsNone (m.report v P Q)

-- each own error in a tree has a text that is promised
abbrev ToldPlain : Described → Type 0
ToldPlain d = d.2 ≡ false

abbrev mutual
  pub PlainTree : Tree → Type 0
  PlainTree (node P Q b a es ts) = Each ToldPlain es × PlainTrees ts
  PlainTree (leaf_node P Q es) = Each ToldPlain es

  pub PlainTrees : Trees → Type 0
  PlainTrees no_tree = ⊤
  PlainTrees (and_tree t ts) = PlainTree t × PlainTrees ts

abbrev ShowsNone : Meaning → Type 0
ShowsNone m = (v : Data) → IsPlain v → (P Q : Path) → PlainTree (m.tree v P Q)

abbrev Good : Data → Meaning → Type 0
Good d m = IsPlain d × ReportsNone m × ShowsNone m

-- the members of a value without a fraction have none
listed_plain : (ms : Members) → members_have_float ms ≡ false → Each (λ m. IsPlain m.1) (listed ms)
listed_plain no_members h = tt
listed_plain (member n d ms) h = let p = neither (has_float d) (members_have_float ms) h in (p.0, listed_plain ms p.1)

members_plain : (v : Data) → IsPlain v → Each (λ m. IsPlain m.1) (members v)
members_plain (object ms) h = listed_plain ms h
members_plain v h = tt

-- ---- a keyword itself

required_prints : (ns : List Name) (v : Data) (P Q : Path) → Each PrintsNone (required_faults ns v P Q)
required_prints ns v P Q = Each-map PrintsNone _ _ (Each-any _ (λ n. refl) _)

due_prints : (es : List (Name × List Name)) (v : Data) (P Q : Path) → Each PrintsNone (flat_map (λ e. required_faults e.1 v P Q) es)
due_prints es v P Q = Each-flat_map PrintsNone _ es (Each-any _ (λ e. required_prints e.1 v P Q) _)

unexpected_prints : (named : Bool) (ms : List (Name × Data)) (v : Data) (P Q : Path) → Each (λ m. IsPlain m.1) ms → Each PrintsNone (unexpected_faults named ms v P Q)
unexpected_prints named [] v P Q h = tt
unexpected_prints true (m ∷ ms) v P Q h = (refl, tt)
unexpected_prints false (m ∷ ms) v P Q h = (h.0, tt)

wrapped_prints : (v : Data) (Q : Path) (f : Fault) → PrintsNone f → PrintsNone (wrapped v Q f)
wrapped_prints v Q (fault k n R P) h = h

put_each : {X : Type 0} (P : X → Type 0) (b : Bool) (x : X) → P x → Each P (put_if b x [])
put_each P true x h = (h, tt)
put_each P false x h = tt

-- ---- trees

trees_plain : (ts : List Tree) → Each PlainTree ts → PlainTrees (trees_from ts)
trees_plain [] h = tt
trees_plain (t ∷ ts) h = (h.0, trees_plain ts h.1)

described_plain : (fs : List Fault) → Each PrintsNone fs → Each ToldPlain (described fs)
described_plain [] h = tt
described_plain (fault k v Q P ∷ fs) h = (h.0, described_plain fs h.1)

module _ (P Q : Path) where
  node_plain : (b : Bool) (a : Option (List Name)) (es : List Described) (ts : Trees) → Each ToldPlain es → PlainTrees ts → PlainTree (result_node P Q b a es ts)
  node_plain true a es ts h k = (h, k)
  node_plain false a es ts h k = (h, k)

  result_plain : (a : Option (List Name)) (invalid : Bool) (es : List Described) (ts : List Tree) → Each ToldPlain es → Each PlainTree ts → PlainTree (result P Q a invalid es ts)
  result_plain a invalid es ts h k = node_plain _ a es (trees_from ts) h (trees_plain ts k)

  plain_plain : (ts : List Tree) → Each PlainTree ts → PlainTree (plain P Q ts)
  plain_plain ts k = result_plain None false [] ts tt k

  erring_plain : (fs : List Fault) → Each PrintsNone fs → PlainTree (erring P Q fs)
  erring_plain fs h = result_plain None false _ [] (described_plain fs h) tt

cond_plain : (b : Bool) (s t : Tree) → PlainTree s → PlainTree t → PlainTree (cond b s t)
cond_plain true s t h k = h
cond_plain false s t h k = k

module _ (W : World) (u : Bool) where
  module _ (S : Keywords Meaning) (k : Name) (p : Part Meaning) (h : GoodPart Good p) (v : Data) (fine : IsPlain v) (P Q : Path) where
    own_prints : (w : Keyword) → Each PrintsNone (own W u S k p v P Q w)
    own_prints additional_properties =
        Each-flat_map PrintsNone (λ s. unexpected_faults (has_neighbour S) (additional S W u v) v (P // k) Q) (put_if (is_truth false p.whole.schema) p.whole [])
        (Each-any _ (λ s. unexpected_prints _ _ _ _ _ (Each-filter_once (λ m. IsPlain m.1) _ _ (members_plain v fine))) _)
    own_prints property_names =
        Each-append PrintsNone (flat_map (λ s. flat_map (λ m. map (wrapped v Q) (s.answer.report (string m.0) (P // k) Q)) (members v)) (put_if (is_object p.whole.schema) p.whole [])) _
        (Each-flat_map PrintsNone (λ s. flat_map (λ m. map (wrapped v Q) (s.answer.report (string m.0) (P // k) Q)) (members v)) (put_if (is_object p.whole.schema) p.whole [])
        (Each-implies (GoodSub Good) _ (λ s g. Each-flat_map PrintsNone _ (members v) (Each-any _ (λ m. Each-map PrintsNone (wrapped v Q) _
        (Each-implies PrintsNone _ (wrapped_prints v Q) _ (g.1 (string m.0) refl (P // k) Q))) _)) _ (put_each (GoodSub Good) _ _ h.0)))
        (put_prints (is_truth false p.whole.schema && not (is_empty (members v))) (fault FalseSchema v Q (P // k)) fine)
    own_prints required = required_prints (names p) v (P // k) Q
    own_prints dependent_required = due_prints (due p v) v (P // k) Q
    own_prints dependencies = due_prints (due p v) v (P // k) Q
    own_prints any_of = put_prints _ (fault (AnyOf (branch_faults p v (P // k) Q)) v Q (P // k)) fine
    own_prints one_of =
        Each-append PrintsNone (fault_if (accepting p v == 0) (OneOfNotValid (branch_faults p v (P // k) Q)) v (P // k) Q) _
        (put_prints _ _ fine)
        (put_prints (nat_lt 1 (accepting p v)) (fault (OneOfMultipleValid (branch_faults p v (P // k) Q)) v Q (P // k)) fine)
    own_prints not_keyword = put_prints (holds p.whole v) (fault (Not p.whole.schema) v Q (P // k)) (rw (h.0.0, fine) refl)
    own_prints leaf = Each-map PrintsNone (λ t. fault (Leaf k t) v Q (P // k)) (W.faults k p.whole.schema v) (Each-any _ (λ t. refl) _)
    own_prints w = tt

    keyword_prints : (w : Keyword) → Each PrintsNone (keyword_report W u S k p v P Q w)
    keyword_prints w =
        Each-append PrintsNone _ _
        (Each-flat_map PrintsNone _ _
        (Each-implies (GoodAsked Good IsPlain) _ (λ a g. g.0.1 a.value g.1 (down P a.in_schema) (down Q a.in_instance)) _
        (applied_good Good IsPlain W u S k p h v fine (members_plain v fine) w)))
        (own_prints w)

  -- ---- the child of a keyword

  module _ (S : Keywords Meaning) (g : GoodKeywords Good S) (v : Data) (fine : IsPlain v) (P Q : Path) where
    declared_plain : (m : Name × Data) → IsPlain m.1 → Each PlainTree (declared_trees W u S v P Q m)
    declared_plain m h =
        Each-map PlainTree _ _
        (Each-implies (GoodSub Good) _ (λ s c. c.2 m.1 h _ _) _
        (Each-option (GoodSub Good) _ (On-lookup_name (GoodSub Good) _ _ (entries_at_good Good S g (codes "properties")))))

    pattern_plain : (m : Name × Data) → IsPlain m.1 → Each PlainTree (pattern_trees W u S v P Q m)
    pattern_plain m h =
        Each-map PlainTree _ _
        (Each-implies (GoodEntry Good) _ (λ e c. c.2 m.1 h _ _) _
        (Each-filter_once (GoodEntry Good) _ _ (entries_at_good Good S g (codes "patternProperties"))))

    missing_plain : (b : Bool) → Each PlainTree (missing_child W u S v P Q b)
    missing_plain b = put_each PlainTree _ _ (erring_plain _ _ _ (required_prints (names_at S (codes "required")) v (P // codes "required") Q))

    module _ (k : Name) (p : Part Meaning) (h : GoodPart Good p) where
      additional_plain : (m : Name × Data) → IsPlain m.1 → Each PlainTree (additional_trees W u S v P Q k p m)
      additional_plain m c = put_each PlainTree _ _ (h.0.2 m.1 c _ _)

      branches_plain : (test : Subschema → Bool) → Each PlainTree (branch_trees W u S v P Q k p test)
      branches_plain test =
          Each-map PlainTree _ _
          (Each-implies (GoodEntry Good) _ (λ b c. c.2 v fine _ _) _ (Each-filter_once (GoodEntry Good) _ _ (branches_good Good p h)))

      asked_plain : (w : Keyword) → Each PlainTree (asked_trees W u S v P Q k p w)
      asked_plain w =
          Each-map PlainTree _ _
          (Each-implies (GoodAsked Good IsPlain) _ (λ a c. c.0.2 a.value c.1 _ _) _ (applied_good Good IsPlain W u S k p h v fine (members_plain v fine) w))

      own_told : (w : Keyword) → Each ToldPlain (described (own W u S k p v P Q w))
      own_told w = described_plain _ (own_prints S k p h v fine P Q w)

      each_member_plain : (f : Name × Data → List Tree) → ((m : Name × Data) → IsPlain m.1 → Each PlainTree (f m)) → Each PlainTree (flat_map f (members v))
      each_member_plain f c = Each-flat_map PlainTree _ _ (Each-implies (λ m. IsPlain m.1) (λ m. Each PlainTree (f m)) c _ (members_plain v fine))

      properties_plain : Each PlainTree (properties_child W u S v P Q k p)
      properties_plain = put_each PlainTree _ _ (result_plain (P // k) Q (on_objects W u S v P Q true (map (λ m. m.0) (filter_once (λ m. is_declared S m.0) (members v)))) false [] _ tt
          (Each-append PlainTree _ _ (each_member_plain _ declared_plain) (missing_plain (fuses_two S))))

      patterns_plain : Each PlainTree (patterns_child W u S v P Q k p)
      patterns_plain = put_each PlainTree _ _
          (result_plain (P // k) Q (on_objects W u S v P Q true (flat_map (λ e. map (λ m. m.0) (filter_once (λ m. matches W u e.0 m.0) (members v))) p.entries)) false [] _ tt
          (asked_plain pattern_properties))

      additionals_plain : Each PlainTree (additional_child W u S v P Q k p)
      additionals_plain = put_each PlainTree _ _ (result_plain _ _ _ false _ _ (own_told additional_properties)
          (Each-append PlainTree _ _
          (Each-append PlainTree _ _
          (each_member_plain _ (λ m c. Each-append PlainTree _ _
          (Each-append PlainTree _ _ (declared_plain m c) (pattern_plain m c)) (additional_plain m c)))
          (put_each PlainTree _ _ (tt, tt)))
          (missing_plain (fuses_one S))))

      names_plain : Each PlainTree (names_child W u S v P Q k p)
      names_plain =
          Each-append PlainTree (where_so (is_object p.whole.schema) (plain (P // k) Q (map (λ m. p.whole.answer.tree (string m.0) (P // k) Q) (members v)))) _
          (put_each PlainTree _ _ (plain_plain _ _ _ (Each-map PlainTree _ (members v) (Each-any _ (λ m. h.0.2 (string m.0) refl _ _) _))))
          (put_each PlainTree _ _ (erring_plain (P // k) Q _ (put_prints (not (is_empty (members v))) (fault FalseSchema v Q (P // k)) fine)))

      dependency_plain : (e : Name × Subschema) → GoodEntry Good e → PlainTree (dependency_tree W u S v P Q k p e)
      dependency_plain e c = cond_plain (is_array e.1.schema) _ _ (erring_plain (P // k) Q _ (required_prints (texts e.1.schema) v (P // k) Q)) (c.2 v fine _ _)

      any_of_plain : PlainTree (any_of_child W u S v P Q k p)
      any_of_plain = cond_plain (accepting p v == 0) _ _ (result_plain (P // k) Q None true [] _ tt (branches_plain (λ s. true))) (plain_plain (P // k) Q _ (branches_plain (λ s. holds s v)))

      one_of_plain : PlainTree (one_of_child W u S v P Q k p)
      one_of_plain = cond_plain (accepting p v == 0) _ _ (result_plain (P // k) Q None true [] _ tt (branches_plain (λ s. true)))
          (result_plain (P // k) Q None false _ _ (put_each ToldPlain (nat_lt 1 (accepting p v)) _ refl) (branches_plain (λ s. holds s v)))

      case_plain : (b : Bool) (n : Name) → Each PlainTree (case_trees W u S v P Q k p b n)
      case_plain b n = Each-flat_map PlainTree _ _
          (Each-implies (GoodSub Good) _ (λ s c. put_each PlainTree _ _ (c.2 v fine _ _)) _ (wholes_at_good Good S g n))

      if_plain : Each PlainTree (if_child W u S v P Q k p)
      if_plain = put_each PlainTree _ _ (plain_plain (P // k) Q _
          (Each-append PlainTree (where_so (holds p.whole v) (p.whole.answer.tree v (P // k) Q) ++ case_trees W u S v P Q k p (holds p.whole v) (codes "then")) _
          (Each-append PlainTree _ _ (put_each PlainTree _ _ (h.0.2 v fine _ _))
          (case_plain (holds p.whole v) (codes "then")))
          (case_plain (not (holds p.whole v)) (codes "else"))))

      child_plain : (w : Keyword) → Each PlainTree (keyword_child W u S v P Q k p w)
      child_plain properties = properties_plain
      child_plain pattern_properties = patterns_plain
      child_plain additional_properties = additionals_plain
      child_plain property_names = names_plain
      child_plain required = put_each PlainTree _ _ (erring_plain _ _ _ (required_prints (names p) v (P // k) Q))
      child_plain dependent_required = (
        plain_plain _ _ _ (Each-map PlainTree _ (due p v)
            (Each-any _ (λ e. erring_plain _ _ _ (required_prints e.1 v (P // k) Q)) _)),
        tt,
      )
      child_plain dependent_schemas = (plain_plain _ _ _ (asked_plain dependent_schemas), tt)
      child_plain dependencies = (
        plain_plain _ _ _ (Each-map PlainTree _ _
            (Each-implies (GoodEntry Good) _ dependency_plain _ (Each-filter_once (GoodEntry Good) _ _ h.1))),
        tt,
      )
      child_plain property_dependencies = (plain_plain _ _ _ (asked_plain property_dependencies), tt)
      child_plain all_of = (plain_plain _ _ _ (asked_plain all_of), tt)
      child_plain any_of = (any_of_plain, tt)
      child_plain one_of = (one_of_plain, tt)
      child_plain not_keyword = (erring_plain _ _ _ (own_prints S k p h v fine P Q not_keyword), tt)
      child_plain if_keyword = if_plain
      child_plain leaf = (own_told leaf, tt)
      child_plain w = tt

  keywords_print : (S : Keywords Meaning) → GoodKeywords Good S → ReportsNone (meaning_step W u (keywords S))
  keywords_print S g v fine P Q =
      Each-flat_map PrintsNone _ _
      (Each-implies (λ m. GoodPart Good m.1) _ (λ m h. keyword_prints S m.0 m.1 h v fine P Q (keyword_named W m.0)) _ g)

  keywords_show : (S : Keywords Meaning) → GoodKeywords Good S → ShowsNone (meaning_step W u (keywords S))
  keywords_show S g v fine P Q = plain_plain _ _ _
      (Each-flat_map PlainTree _ _
      (Each-implies (λ m. GoodPart Good m.1) _ (λ m h. child_plain S g v fine P Q m.0 m.1 h (keyword_named W m.0)) _ g))

  step_prints : (d : Data) → IsPlain d → GoodSchema Good (schema_read (meaning_step W u) d) → Good d (meaning_step W u (schema_read (meaning_step W u) d))
  step_prints (boolean b) s g = (s, λ v fine P Q. put_prints _ _ fine, λ v fine P Q. erring_plain _ _ _ (put_prints _ _ fine))
  step_prints (object ms) s g = let S = read_members (meaning_step W u) ms in (s, keywords_print S g, keywords_show S g)
  step_prints _ s g = (s, λ v fine P Q. tt, λ v fine P Q. (tt, tt))

  all_print_none : (S : Data) → IsPlain S → Good S (meaning W u S)
  unfolding meaning
  all_print_none S s = sound_answer Good IsPlain each_item each_member (meaning_step W u) step_prints S s

  pub report_prints_none : (S v : Data) → IsPlain S → IsPlain v → (P Q : Path) → Each PrintsNone (report W u S v P Q)
  report_prints_none S v s fine P Q = (all_print_none S s).1 v fine P Q

  pub tree_prints_none : (S v : Data) → IsPlain S → IsPlain v → (P Q : Path) → PlainTree (tree W u S v P Q)
  tree_prints_none S v s fine P Q = (all_print_none S s).2 v fine P Q

-- ---- up to order

mutual
  like_prints : (f g : Fault) → IsLike f g → prints_fraction f ≡ prints_fraction g
  like_prints (fault k v Q P) (fault l w R O) (like h) = like_kind_prints k l v h

  like_kind_prints : (k l : Kind) (v : Data) → IsLikeKind k l → kind_prints_fraction k v ≡ kind_prints_fraction l v
  like_kind_prints k l v (like_names {f} {g} h) = like_prints f g h
  like_kind_prints k l v h = refl

∼_prints : {fs gs : List Fault} → fs ∼ gs → Each PrintsNone gs → Each PrintsNone fs
∼_prints like_empty h = tt
∼_prints (like_next {f} {g} e k) h = (like_prints f g e ∙ h.0, ∼_prints k h.1)
∼_prints like_swap h = (h.1.0, (h.0, h.1.1))
∼_prints (like_through k l) h = ∼_prints k (∼_prints l h)

-- ---- what `validate` keeps of a fault

mutual
  cut_kind_prints : (k : Kind) (v : Data) → kind_prints_fraction (cut_kind k) v ≡ kind_prints_fraction k v
  cut_kind_prints (AdditionalProperties []) v = refl
  cut_kind_prints (PropertyNames f) v = cut_fault_prints f
  cut_kind_prints _ v = refl

  cut_fault_prints : (f : Fault) → prints_fraction (cut f) ≡ prints_fraction f
  cut_fault_prints (fault k v Q P) = cut_kind_prints k v

pub cut_prints : (f : Fault) → PrintsNone f → PrintsNone (cut f)
cut_prints f h = cut_fault_prints f ∙ h

module _ (W : World) (u : Bool) (S v : Data) (s : IsPlain S) (fine : IsPlain v) (P Q : Path) where
  -- a list that has the same faults, and one of them as `validate` gives it
  pub same_faults_print_none : (fs : List Fault) → IsReport W u S v P Q fs → Each PrintsNone fs
  same_faults_print_none fs h = ∼_prints h (report_prints_none W u S v s fine P Q)

  pub cut_fault_prints_none : (fs : List Fault) → IsReport W u S v P Q fs → (f : Fault) → Contains fs f → PrintsNone (cut f)
  cut_fault_prints_none fs h f c = cut_prints f (each_contained fs (same_faults_print_none fs h) f c)

-- ---- what a tree shows

own_promised : (P Q : Path) (es : List Described) → Each ToldPlain es → Each IsPromised (map (λ e. (P, Q, e)) es)
own_promised P Q [] h = tt
own_promised P Q ((k, t, fraction) ∷ es) h = (h.0, own_promised P Q es h.1)

mutual
  pub errors_promised : (t : Tree) → PlainTree t → Each IsPromised (errors t)
  errors_promised (node P Q b a es ts) h = Each-append IsPromised _ _ (own_promised P Q es h.0) (all_promised ts h.1)
  errors_promised (leaf_node P Q es) h = own_promised P Q es h

  all_promised : (ts : Trees) → PlainTrees ts → Each IsPromised (errors_of ts)
  all_promised no_tree h = tt
  all_promised (and_tree t ts) h = Each-append IsPromised _ _ (errors_promised t h.0) (all_promised ts h.1)
