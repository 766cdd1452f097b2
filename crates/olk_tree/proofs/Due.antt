-- The nodes that a dependency asks of an object, over the members that a walk meets.
use Rattle.std.proofs.Common.{◌≡◌, Bool, true, false, arith, length, String, Global, string_bytes, List, [], ◌∷◌, ◌++◌, map, Option, Some, None, is_some, option_to_list, append-nil, refl, sym, ap, ◌∙◌}
use Rattle.std.specs.List.{flat_map}
use Rattle.serde_json.specs.Data.{Data, Members, null, string, object}
use Rattle.serde_json.specs.Find.{as_object, as_str}
use Rattle.serde_json.specs.View.{view, members_view}
use Rattle.serde_json.specs.declared.value.Value.{Value}
use Rattle.olk_spec.specs.Names.{Name, lookup_name, filter_once, put_if, is_empty}
use Rattle.olk_spec.specs.Faults.{Fault}
use Rattle.olk_spec.specs.Schemas.{listed, members, has, as_text}
use Rattle.olk_spec.proofs.Maps.{flat_map-map, map-map}
use Rattle.olk_tree.specs.Questions.{Question, every}
use Rattle.olk_tree.specs.Maps.{named}
use Rattle.olk_tree.specs.Firsts.{first_of}
use Rattle.olk_tree.specs.Dependencies.{due_nodes}
use Rattle.olk_tree.specs.PropertyDependencies.{chosen_at, chosen_nodes}
use Rattle.olk_tree.specs.Visited.{Declared, declared_as, names_met, left_of}
use Rattle.olk_tree.specs.declared.map.SmallMap.{SmallMap}
use Rattle.olk_tree.specs.declared.declared.DeclaredMembers.{DeclaredMembers}
use Rattle.olk_tree.proofs.Questions.{every-flat_map}
use Rattle.olk_tree.proofs.Faults.{first_of-flat_map}
use Rattle.olk_tree.proofs.Maps.{every-map, first_of-map, map-flat_map, flat_map-of-flat_map}
use Rattle.olk_tree.proofs.Members_met.{no_members, object_is}

module _ {N : Type 0} (ms : Members) where
  nodes_met : (es : List (Name × N)) → map (λ d. d.node) (names_met es (listed ms)) ≡ due_nodes es (object ms)
  nodes_met [] = refl
  nodes_met (e ∷ es) = by _ (nodes_met es)
    where
      by : (o : Option Data) → map (λ d. d.node) (names_met es (listed ms)) ≡ due_nodes es (object ms)
          → map (λ d. d.node) (flat_map (λ v. declared_as e.0 e.1 v) (option_to_list o) ++ names_met es (listed ms)) ≡ map (λ f. f.1) (put_if (is_some o) e (filter_once (λ f. has f.0 (object ms)) es))
      by None same = same
      by (Some v) same = ap (λ l. e.1 ∷ l) same

  -- over what a walk has left at its start
  module _ (es : List (Name × N)) {w v : DeclaredMembers N} (same : w ≡ v) (whole : left_of v ≡ names_met es (listed ms)) (x : Data) (is : x ≡ object ms) where
    nodes_of_walk : map (λ d. d.node) (left_of w) ≡ due_nodes es x
    nodes_of_walk = ap (map (λ d. d.node)) (ap left_of same ∙ whole) ∙ nodes_met es ∙ ap (due_nodes es) (sym is)

    pub every_due : (q : N → Question) → every (λ d. q d.node) (left_of w) ≡ every q (due_nodes es x)
    every_due q = sym (every-map q _ (λ d. d.node) (λ d. refl) (left_of w)) ∙ ap (every q) nodes_of_walk

    pub each_due : {B : Type 0} (f : N → List B) → flat_map (λ d. f d.node) (left_of w) ≡ flat_map f (due_nodes es x)
    each_due f = sym (flat_map-map f _ (λ d. d.node) (λ d. refl) (left_of w)) ∙ ap (flat_map f) nodes_of_walk

    pub first_due : (f : N → List Fault) → first_of (λ d. f d.node) (left_of w) ≡ first_of f (due_nodes es x)
    first_due f = sym (first_of-map f _ (λ d. d.node) (λ d. refl) (left_of w)) ∙ ap (first_of f) nodes_of_walk

    pub all_due : {B : Type 0} (f : N → B) → map (λ d. f d.node) (left_of w) ≡ map f (due_nodes es x)
    all_due f = sym (map-map f _ (λ d. d.node) (λ d. refl) (left_of w)) ∙ ap (map f) nodes_of_walk

-- ---- the nodes at the texts that members are

text_is : (d : Data) (t : Name) → Some t ≡ as_str d → as_text d ≡ t ∷ []
text_is null t e = cc
text_is _ t e = cc

no_text : (d : Data) → None ≡ as_str d → as_text d ≡ []
no_text (string s) e = cc
no_text _ e = refl

module _ {N : Type 0} (m : SmallMap N) (d : Data) where
  pub at_text : (t : Name) → Some t ≡ as_str d → option_to_list (lookup_name t (named m)) ≡ chosen_at m d
  at_text t e = sym (ap (flat_map (λ s. option_to_list (lookup_name s (named m)))) (text_is d t e) ∙ append-nil (option_to_list (lookup_name t (named m))))

  pub at_no_text : None ≡ as_str d → [] ≡ chosen_at m d
  at_no_text e = sym (ap (flat_map _) (no_text d e))

module _ {N : Type 0} where
  abbrev pub chosen : Declared (SmallMap N) → List N
  chosen d = chosen_at d.node d.value

  module _ (ms : Members) where
    chosen_met : (es : List (Name × SmallMap N)) → flat_map chosen (names_met es (listed ms)) ≡ chosen_nodes es (object ms)
    chosen_met [] = refl
    chosen_met (e ∷ es) = by _ (chosen_met es)
      where
        by : (o : Option Data) → flat_map chosen (names_met es (listed ms)) ≡ chosen_nodes es (object ms)
            → flat_map chosen (flat_map (λ v. declared_as e.0 e.1 v) (option_to_list o) ++ names_met es (listed ms)) ≡ flat_map (chosen_at e.1) (option_to_list o) ++ chosen_nodes es (object ms)
        by None same = same
        by (Some v) same = λ i. sym (append-nil (chosen_at e.1 v)) i ++ same i

    module _ (es : List (Name × SmallMap N)) {w v : DeclaredMembers (SmallMap N)} (same : w ≡ v) (whole : left_of v ≡ names_met es (listed ms)) (x : Data) (is : x ≡ object ms) where
      chosen_of_walk : flat_map chosen (left_of w) ≡ chosen_nodes es x
      chosen_of_walk = ap (flat_map chosen) (ap left_of same ∙ whole) ∙ chosen_met es ∙ ap (chosen_nodes es) (sym is)

      pub every_chosen : (q : N → Question) → every (λ d. every q (chosen d)) (left_of w) ≡ every q (chosen_nodes es x)
      every_chosen q = sym (every-flat_map q chosen (left_of w)) ∙ ap (every q) chosen_of_walk

      pub each_chosen : {B : Type 0} (f : N → List B) → flat_map (λ d. flat_map f (chosen d)) (left_of w) ≡ flat_map f (chosen_nodes es x)
      each_chosen f = sym (flat_map-of-flat_map f chosen (left_of w)) ∙ ap (flat_map f) chosen_of_walk

      pub first_chosen : (f : N → List Fault) → first_of (λ d. first_of f (chosen d)) (left_of w) ≡ first_of f (chosen_nodes es x)
      first_chosen f = sym (first_of-flat_map f chosen (left_of w)) ∙ ap (first_of f) chosen_of_walk

      pub all_chosen : {B : Type 0} (f : N → B) → flat_map (λ d. map f (chosen d)) (left_of w) ≡ map f (chosen_nodes es x)
      all_chosen f = map-flat_map f chosen (left_of w) ∙ ap (map f) chosen_of_walk

-- ---- the names of an object's members, one after the other

pub name_next : {left rest : List (String Global × Value)} {k : String Global} {w : Value} {n : Name} → left ≡ (k, w) ∷ rest → n ≡ string_bytes k
    → listed (members_view left) ≡ (n, view w) ∷ listed (members_view rest)
name_next {left} {rest} {k} {w} {n} next name = ap (λ l. listed (members_view l)) next ∙ ap (λ t. (t, view w) ∷ listed (members_view rest)) (sym name)

pub no_name_next : {left : List (String Global × Value)} → left ≡ [] → listed (members_view left) ≡ []
no_name_next none = ap (λ l. listed (members_view l)) none

listed_none : (b : Bool) (es : List (String Global × Value)) → (b ≡ true → length es ≡ 0) → (length es ≡ 0 → b ≡ true) → b ≡ is_empty (listed (members_view es))
listed_none b [] h k = k refl
listed_none true (e ∷ es) h k = let n = h refl in absurd (omega arith)
listed_none false (e ∷ es) h k = refl

-- whether an object has no members, by how many entries it has
pub has_none : (v : Data) (es : List (String Global × Value)) → Some (members_view es) ≡ as_object v → (b : Bool) → (b ≡ true → length es ≡ 0) → (length es ≡ 0 → b ≡ true) → b ≡ is_empty (members v)
has_none v es is b h k = listed_none b es h k ∙ ap (λ d. is_empty (members d)) (object_is v (members_view es) is)

-- ---- of what is no object

module _ {N : Type 0} (v : Data) (none : None ≡ as_object v) where
  none_has : (es : List (Name × N)) → map (λ e. e.1) (filter_once (λ e. false) es) ≡ []
  none_has [] = refl
  none_has (e ∷ es) = none_has es

  pub none_due : (es : List (Name × N)) → due_nodes es v ≡ []
  none_due es = ap (λ ms. map (λ e. e.1) (filter_once (λ e. is_some (lookup_name e.0 ms)) es)) (no_members v none) ∙ none_has es

  nothing_at : (es : List (Name × SmallMap N)) → flat_map (λ e. flat_map (chosen_at e.1) []) es ≡ []
  nothing_at [] = refl
  nothing_at (e ∷ es) = nothing_at es

  pub none_chosen : (es : List (Name × SmallMap N)) → chosen_nodes es v ≡ []
  none_chosen es = ap (λ ms. flat_map (λ e. flat_map (chosen_at e.1) (option_to_list (lookup_name e.0 ms))) es) (no_members v none) ∙ nothing_at es
