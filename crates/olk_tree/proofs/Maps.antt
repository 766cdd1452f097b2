-- What is said of the answers of nodes is said of the nodes.
use Rattle.std.specs.Prelude.{◌≡◌, ◌&&◌, ◌+◌, ◌==◌, nat_lt, count_by, Bool, true, false, cond, List, [], ◌∷◌, ◌++◌, map, Option, Some, None, option_map, option_to_list}
use Rattle.std.specs.List.{flat_map, list_all, zip}
use Rattle.std.specs.Ordering.{nat_cmp}
use Rattle.std.specs.Cmp.Lexicographic.{slice_cmp}
use Rattle.std.specs.declared.cmp.Ordering.{Ordering}
use Rattle.std.specs.declared.cmp.Ordering.TheVariants.{Equal}
use Rattle.std.proofs.lemmas.List.{map-append}
use Rattle.std.proofs.Common.{refl, sym, ap, ◌∙◌}
use Rattle.std.proofs.lemmas.Grind.{flat_map-append}
use Rattle.std.proofs.lemmas.List.Sums.{sum_by-cons}
use Rattle.serde_json.specs.Data.{Data}
use Rattle.olk_spec.specs.Faults.{Fault}
use Rattle.olk_spec.specs.Names.{Name, Path, ◌//◌, lookup_name, first_if_equal, is_among, filter_once, put_if, is_empty}
use Rattle.olk_spec.specs.Schemas.{is_object, members, has, at, as_text}
use Rattle.olk_spec.specs.Tree.{Tree, result, plain}
use Rattle.olk_spec.specs.World.{Says}
use Rattle.olk_spec.proofs.Maps.{flat_map-map, map-map, filter_once-map, is_empty-map}
use Rattle.olk_base.specs.declared.pattern.CompiledPattern.{CompiledPattern}
use Rattle.olk_tree.specs.Matched.{is_match, matched, matching, match_question}
use Rattle.olk_tree.specs.Shown.{properties_tree, patterns_tree, branch_trees, any_of_tree, several_accept, one_of_tree}
use Rattle.olk_tree.specs.Maps.{named, keys_in, nodes_in}
use Rattle.olk_tree.specs.Firsts.{or_else, first_of}
use Rattle.olk_tree.specs.Dependencies.{due_nodes}
use Rattle.olk_tree.specs.PropertyDependencies.{chosen_at, chosen_nodes}
use Rattle.olk_tree.specs.PatternProperties.{patterns_mean, patterns_report, patterns_first}
use Rattle.olk_tree.specs.declared.map.SmallMap.{SmallMap}
use Rattle.olk_tree.specs.Questions.{Question, always, both, either, conditional, every, some, how_many, exactly_one}

pub all-map : {X Y : Type 0} (p : X → Bool) (q : Y → Bool) (h : Y → X) → ((y : Y) → p (h y) ≡ q y) → (ys : List Y) → list_all p (map h ys) ≡ list_all q ys
all-map p q h same [] = refl
all-map p q h same (y ∷ ys) = λ i. same y i && all-map p q h same ys i

module _ {X Y : Type 0} (p : X → Question) (q : Y → Question) (h : Y → X) (same : (y : Y) → p (h y) ≡ q y) where
  pub every-map : (ys : List Y) → every p (map h ys) ≡ every q ys
  every-map [] = refl
  every-map (y ∷ ys) = λ i. both (same y i) (every-map ys i)

  pub some-map : (ys : List Y) → some p (map h ys) ≡ some q ys
  some-map [] = refl
  some-map (y ∷ ys) = λ i. either (same y i) (some-map ys i)

pub count_by-map : {X Y : Type 0} (p : X → Bool) (q : Y → Bool) (h : Y → X) → ((y : Y) → p (h y) ≡ q y) → (ys : List Y) → count_by p (map h ys) ≡ count_by q ys
count_by-map p q h e [] = refl
count_by-map p q h e (y ∷ ys) = sum_by-cons _ (h y) (map h ys) ∙ (λ i. cond (e y i) 1 0 + count_by-map p q h e ys i) ∙ sym (sum_by-cons _ y ys)

module _ {X Y : Type 0} (p : X → Question) (q : Y → Question) (h : Y → X) (same : (y : Y) → p (h y) ≡ q y) where
  pub how_many-map : (u : Bool) (ys : List Y) → how_many p u (map h ys) ≡ how_many q u ys
  how_many-map u ys = count_by-map _ _ h (λ y. ap (λ z. z.accepts u) (same y)) ys

  pub exactly_one-map : (ys : List Y) → exactly_one p (map h ys) ≡ exactly_one q ys
  exactly_one-map ys = λ i. record { accepts = λ u. how_many-map u ys i == 1; asks = (some-map p q h same ys i).asks }

pub first_of-map : {X Y : Type 0} (p : X → List Fault) (q : Y → List Fault) (h : Y → X) → ((y : Y) → p (h y) ≡ q y) → (ys : List Y) → first_of p (map h ys) ≡ first_of q ys
first_of-map p q h e [] = refl
first_of-map p q h e (y ∷ ys) = λ i. or_else (e y i) (first_of-map p q h e ys i)

module _ {X Y : Type 0} (h : Y → X) where
  found_at : (o : Ordering) (y : Y) (r : Option X) (s : Option Y) → r ≡ option_map h s → first_if_equal o (h y) r ≡ option_map h (first_if_equal o y s)
  found_at Equal y r s e = refl
  found_at _ y r s e = e

  pub lookup_name-zip : (n : Name) (ks : List Name) (ys : List Y) → lookup_name n (zip ks (map h ys)) ≡ option_map h (lookup_name n (zip ks ys))
  lookup_name-zip n (k ∷ ks) (y ∷ ys) = found_at (slice_cmp nat_cmp n k) y _ _ (lookup_name-zip n ks ys)
  lookup_name-zip n _ _ = refl

  -- a name, and what stands for what stands at it
  abbrev pub with_name : Name × Y → Name × X
  with_name e = (e.0, h e.1)

  pub keys_in-map : (es : List (Name × Y)) → keys_in (map with_name es) ≡ keys_in es
  keys_in-map [] = refl
  keys_in-map (e ∷ es) = ap (λ ns. e.0 ∷ ns) (keys_in-map es)

  pub nodes_in-map : (es : List (Name × Y)) → nodes_in (map with_name es) ≡ map h (nodes_in es)
  nodes_in-map [] = refl
  nodes_in-map (e ∷ es) = ap (λ ns. h e.1 ∷ ns) (nodes_in-map es)

  pub zip-map : (ks : List Name) (ys : List Y) → zip ks (map h ys) ≡ map with_name (zip ks ys)
  zip-map (k ∷ ks) (y ∷ ys) = ap (λ es. (k, h y) ∷ es) (zip-map ks ys)
  zip-map _ _ = refl

  pub lookup_name-map : (n : Name) (es : List (Name × Y)) → lookup_name n (map with_name es) ≡ option_map h (lookup_name n es)
  lookup_name-map n [] = refl
  lookup_name-map n (e ∷ es) = found_at _ e.1 _ _ (lookup_name-map n es)

-- ---- lists of lists

module _ {X B : Type 0} where
  pub map-flat_map : {C : Type 0} (g : B → C) (f : X → List B) (xs : List X) → flat_map (λ x. map g (f x)) xs ≡ map g (flat_map f xs)
  map-flat_map g f [] = refl
  map-flat_map g f (x ∷ xs) = ap (λ l. map g (f x) ++ l) (map-flat_map g f xs) ∙ sym (map-append g (f x) (flat_map f xs))

  pub flat_map-of-flat_map : {Y : Type 0} (f : X → List B) (h : Y → List X) (ys : List Y) → flat_map f (flat_map h ys) ≡ flat_map (λ y. flat_map f (h y)) ys
  flat_map-of-flat_map f h [] = refl
  flat_map-of-flat_map f h (y ∷ ys) = flat_map-append f (h y) (flat_map h ys) ∙ ap (λ l. flat_map f (h y) ++ l) (flat_map-of-flat_map f h ys)

-- ---- the nodes that a dependency asks

module _ {X Y : Type 0} (h : Y → X) (v : Data) where
  pub due_nodes-map : (es : List (Name × Y)) → due_nodes (map (with_name h) es) v ≡ map h (due_nodes es v)
  due_nodes-map [] = refl
  due_nodes-map (x ∷ es) = by (has x.0 v) (due_nodes-map es)
    where
      by : (b : Bool) → due_nodes (map (with_name h) es) v ≡ map h (due_nodes es v)
          → map (λ e. e.1) (put_if b (with_name h x) (filter_once (λ e. has e.0 v) (map (with_name h) es))) ≡ map h (map (λ e. e.1) (put_if b x (filter_once (λ e. has e.0 v) es)))
      by true e = ap (λ l. h x.1 ∷ l) e
      by false e = e

  listed-map : (o : Option Y) → option_to_list (option_map h o) ≡ map h (option_to_list o)
  listed-map None = refl
  listed-map (Some y) = refl

  module _ (g : SmallMap Y → SmallMap X) (names : (m : SmallMap Y) → named (g m) ≡ map (with_name h) (named m)) where
    at_text-map : (m : SmallMap Y) (t : Name) → option_to_list (lookup_name t (named (g m))) ≡ map h (option_to_list (lookup_name t (named m)))
    at_text-map m t = ap option_to_list (ap (lookup_name t) (names m) ∙ lookup_name-map h t (named m)) ∙ listed-map _

    at_texts-map : (m : SmallMap Y) (ts : List Name) → flat_map (λ t. option_to_list (lookup_name t (named (g m)))) ts ≡ map h (flat_map (λ t. option_to_list (lookup_name t (named m))) ts)
    at_texts-map m [] = refl
    at_texts-map m (t ∷ ts) = (λ i. at_text-map m t i ++ at_texts-map m ts i) ∙ sym (map-append h _ _)

    chosen_at-map : (m : SmallMap Y) (w : Data) → chosen_at (g m) w ≡ map h (chosen_at m w)
    chosen_at-map m w = at_texts-map m (as_text w)

    chosen_in-map : (m : SmallMap Y) (ws : List Data) → flat_map (chosen_at (g m)) ws ≡ map h (flat_map (chosen_at m) ws)
    chosen_in-map m [] = refl
    chosen_in-map m (w ∷ ws) = (λ i. chosen_at-map m w i ++ chosen_in-map m ws i) ∙ sym (map-append h (chosen_at m w) _)

    pub chosen_nodes-map : (es : List (Name × SmallMap Y)) → chosen_nodes (map (with_name g) es) v ≡ map h (chosen_nodes es v)
    chosen_nodes-map [] = refl
    chosen_nodes-map (e ∷ es) = (λ i. chosen_in-map e.1 (at e.0 v) i ++ chosen_nodes-map es i) ∙ sym (map-append h _ (chosen_nodes es v))

-- ---- what is shown

module _ {X Y : Type 0} (t : X → Data → Path → Tree) (s : Y → Data → Path → Tree) (h : Y → X) (same : (y : Y) (v : Data) (Q : Path) → t (h y) v Q ≡ s y v Q) (v : Data) (Q : Path) where
  at_found : (m : Name × Data) (o : Option Y) → map (λ x. t x m.1 (Q // m.0)) (option_to_list (option_map h o)) ≡ map (λ y. s y m.1 (Q // m.0)) (option_to_list o)
  at_found m None = refl
  at_found m (Some y) = ap (λ x. x ∷ []) (same y m.1 (Q // m.0))

  at_members : (es : List (Name × Y)) (ms : List (Name × Data))
      → flat_map (λ m. map (λ x. t x m.1 (Q // m.0)) (option_to_list (lookup_name m.0 (map (with_name h) es)))) ms ≡ flat_map
      (λ m. map (λ y. s y m.1 (Q // m.0)) (option_to_list (lookup_name m.0 es))) ms
  at_members es [] = refl
  at_members es (m ∷ ms) = λ i. (ap (λ o. map (λ x. t x m.1 (Q // m.0)) (option_to_list o)) (lookup_name-map h m.0 es) ∙ at_found m (lookup_name m.0 es)) i ++ at_members es ms i

  pub properties_tree-map : (P : Path) (es : List (Name × Y)) (more : List Tree) → properties_tree t v Q P (map (with_name h) es) more ≡ properties_tree s v Q P es more
  properties_tree-map P es more =
      λ i. result P Q (cond (is_object v) (Some (map (λ m. m.0) (filter_once (λ m. is_among m.0 (keys_in-map h es i)) (members v)))) None) false [] (at_members es (members v) i ++ more)

  pub branch_trees-map : (ys : List Y) → branch_trees t v Q (map h ys) ≡ branch_trees s v Q ys
  branch_trees-map ys = map-map _ _ h (λ y. same y v Q) ys

  pub any_of_tree-map : (a : X → Bool) (b : Y → Bool) → ((y : Y) → a (h y) ≡ b y) → (P : Path) (ys : List Y) → any_of_tree t v Q a P (map h ys) ≡ any_of_tree s v Q b P ys
  any_of_tree-map a b e P ys =
      ap (λ xs. cond (is_empty xs) (result P Q None true [] (branch_trees t v Q (map h ys))) (plain P Q (branch_trees t v Q xs))) (filter_once-map a b h e ys)
      ∙ (λ i. cond (is_empty-map h (filter_once b ys) i) (result P Q None true [] (branch_trees-map ys i)) (plain P Q (branch_trees-map (filter_once b ys) i)))

  pub one_of_tree-map : (a : X → Bool) (b : Y → Bool) → ((y : Y) → a (h y) ≡ b y) → (P : Path) (ys : List Y) → one_of_tree t v Q a P (map h ys) ≡ one_of_tree s v Q b P ys
  one_of_tree-map a b e P ys = λ i. cond (count_by-map a b h e ys i == 0) (result P Q None true [] (branch_trees-map ys i))
      (result P Q None false (put_if (nat_lt 1 (count_by-map a b h e ys i)) several_accept []) ((ap (branch_trees t v Q) (filter_once-map a b h e ys) ∙ branch_trees-map (filter_once b ys)) i))

-- ---- the nodes of patterns

module _ {R X Y : Type 0} (answers : R → Name → Says) (h : Y → X) where
  -- a pattern beside what stands for its node
  abbrev pub beside_pattern : CompiledPattern R × Y → CompiledPattern R × X
  beside_pattern e = (e.0, h e.1)

  module _ (v : Data) where
    pub patterns_mean-map : (costs : R → Bool) (m : X → Data → Question) (k : Y → Data → Question) → ((y : Y) (w : Data) → m (h y) w ≡ k y w)
        → (es : List (CompiledPattern R × Y)) → patterns_mean answers costs m (map beside_pattern es) v ≡ patterns_mean answers costs k es v
    patterns_mean-map costs m k same es =
        every-map _ _ beside_pattern
        (λ e i. every (λ x. conditional (match_question answers costs e.0 x.0) (same e.1 x.1 i) (always true)) (members v)) es

  module _ (u : Bool) (v : Data) where
    module _ (r : X → Bool → Data → Path → List Fault) (k : Y → Bool → Data → Path → List Fault) (same : (y : Y) (w : Data) (Q : Path) → r (h y) u w Q ≡ k y u w Q) (Q : Path) where
      pub patterns_report-map : (es : List (CompiledPattern R × Y)) → patterns_report answers r u (map beside_pattern es) v Q ≡ patterns_report answers k u es v Q
      patterns_report-map es = flat_map-map _ _ beside_pattern (λ e i. flat_map (λ x. same e.1 x.1 (Q // x.0) i) (matched answers u e.0 v)) es

      pub patterns_first-map : (es : List (CompiledPattern R × Y)) → patterns_first answers r u (map beside_pattern es) v Q ≡ patterns_first answers k u es v Q
      patterns_first-map es =
          λ i. first_of (λ x. (ap (first_of (λ e. r e.1 u x.1 (Q // x.0))) (filter_once-map (λ e. is_match answers u e.0 x.0) (λ e. is_match answers u e.0 x.0) beside_pattern (λ e. refl) es)
          ∙ first_of-map (λ e. r e.1 u x.1 (Q // x.0)) (λ e. k e.1 u x.1 (Q // x.0)) beside_pattern (λ e. same e.1 x.1 (Q // x.0)) (matching answers u es x.0)) i) (members v)

    pub patterns_tree-map : (t : X → Data → Path → Tree) (s : Y → Data → Path → Tree) → ((y : Y) (w : Data) (Q : Path) → t (h y) w Q ≡ s y w Q)
        → (P Q : Path) (es : List (CompiledPattern R × Y)) → patterns_tree t v Q answers u P (map beside_pattern es) ≡ patterns_tree s v Q answers u P es
    patterns_tree-map t s same P Q es =
        λ i. result P Q (cond (is_object v) (Some (flat_map-map (λ e. map (λ x. x.0) (matched answers u e.0 v)) (λ e. map (λ x. x.0) (matched answers u e.0 v)) beside_pattern
        (λ e. refl) es i)) None) false []
        (flat_map-map (λ e. map (λ x. t e.1 x.1 (Q // x.0)) (matched answers u e.0 v)) (λ e. map (λ x. s e.1 x.1 _) (matched answers u e.0 v)) beside_pattern
        (λ e i. map (λ x. same e.1 x.1 (Q // x.0) i) (matched answers u e.0 v)) es i)
