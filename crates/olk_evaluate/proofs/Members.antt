-- Members that are met, one after another.
use Rattle.std.proofs.Common.{◌≡◌, Bool, true, false, not, ◌&&◌, List, [], ◌∷◌, ◌++◌, map, ◌||◌, bytes_eq, Ordering, Less, Equal, Greater, Option, Some, None, is_some, option_to_list, refl, sym, ap, subst, ◌∙◌, append_assoc}
use Rattle.std.specs.List.{flat_map, list_all}
use Rattle.std.specs.Ordering.{nat_cmp, is_eq}
use Rattle.std.specs.Cmp.Lexicographic.{slice_cmp}
use Rattle.std.proofs.lemmas.Map.Text.{is_eq-slice_cmp}
use Rattle.std.proofs.lemmas.List.Folds.{list_all-append}
use Rattle.std.proofs.lemmas.List.{append-nil, map-append}
use Rattle.std.proofs.Math.Bool.{and_comm}
use Rattle.serde_json.specs.Data.{Data, Members, object}
use Rattle.serde_json.specs.Find.{as_object}
use Rattle.olk_spec.specs.Names.{Name, Path, ◌//◌, lookup_name, first_if_equal, is_among, filter_once, put_if, is_empty}
use Rattle.olk_spec.specs.Schemas.{listed}
use Rattle.olk_spec.specs.Tree.{Tree, is_valid, result, plain, erring}
use Rattle.olk_spec.specs.Accepts.{missing}
use Rattle.olk_spec.specs.Reports.{required_faults}
use Rattle.olk_tree.specs.Questions.{Question, every}
use Rattle.olk_tree.specs.Properties.{properties_mean}
use Rattle.olk_tree.specs.Shown.{properties_tree, missing_trees}
use Rattle.olk_tree.specs.Visited.{Declared, declared_as, members_declared}
use Rattle.olk_tree.proofs.Members_met.{means_nothing, object_is}
use Rattle.olk_check.proofs.Missing.{lacks_nothing}
use Rattle.olk_reports.specs.Evaluations.{Shown, shown, nothing_shown, annotated, with_children, with_names, node_at}
use Rattle.olk_evaluate.specs.Wanted.{Wanted, IsShown, AreShown, ShowsMore, refused, lacking_trees}
use Rattle.olk_evaluate.specs.Members.{HasMet, MeetsMore, wanted_at}
use Rattle.olk_evaluate.proofs.Children.{trees_wanted, all_wanted, same_trees, shown_as, shown_append, result_shown, shows_nothing, all_valid, no_children, more_children}
use Rattle.olk_evaluate.proofs.OwnErrors.{all_there}

-- ---- one member after another

no_names : (s : Shown) → with_names [] s ≡ s
no_names (shown b None es ts) = refl
no_names (shown b (Some ns) es ts) = λ i. shown b (Some (append-nil ns i)) es ts

more_names : (ns ms : List Name) (s : Shown) → with_names ms (with_names ns s) ≡ with_names (ns ++ ms) s
more_names ns ms (shown b None es ts) = refl
more_names ns ms (shown b (Some ls) es ts) = λ i. shown b (Some (append_assoc ls ns ms i)) es ts

names_apart : (ts : List Tree) (ns : List Name) (s : Shown) → with_children ts (with_names ns s) ≡ with_names ns (with_children ts s)
names_apart ts ns (shown b a es us) = refl

module _ {N : Type 0} where
  abbrev declared_names : List (Declared N) → List Name
  declared_names = map (λ d. d.name)

  module _ {want : Declared N → Wanted} where
    pub meets_nothing : (s : Shown) → MeetsMore want [] s s
    meets_nothing s = record { added = []; is = sym (ap (with_names []) (no_children s) ∙ no_names s); shown = tt }

    pub meets_both : {ds es : List (Declared N)} {a b c : Shown} → MeetsMore want ds a b → MeetsMore want es b c → MeetsMore want (ds ++ es) a c
    meets_both {ds} {es} {a} h k = record {
      added = h.added ++ k.added;
      is =
          k.is ∙ ap (λ s. with_names (declared_names es) (with_children k.added s)) h.is
          ∙ ap (with_names (declared_names es)) (names_apart k.added (declared_names ds) (with_children h.added a))
          ∙ more_names (declared_names ds) (declared_names es) (with_children k.added (with_children h.added a))
          ∙ (λ i. with_names (sym (map-append (λ d. d.name) ds es) i) (more_children h.added k.added a i));
      shown = subst (λ ws. AreShown ws (h.added ++ k.added)) (sym (map-append want ds es)) (shown_append (map want ds) (map want es) h.added k.added h.shown k.shown);
    }

    pub meets_one : {a m b : Shown} {d : Declared N} → m ≡ with_names (d.name ∷ []) a → ShowsMore (want d ∷ []) m b → MeetsMore want (d ∷ []) a b
    meets_one {a} {d = d} names more = record {
      added = more.added;
      is = more.is ∙ ap (with_children more.added) names ∙ names_apart more.added (d.name ∷ []) a;
      shown = more.shown;
    }

    -- what is met from nothing
    pub met_alone : {ds : List (Declared N)} {o s r : Shown} → o ≡ nothing_shown → s ≡ annotated [] o → (h : MeetsMore want ds s r)
        → r ≡ shown (list_all is_valid h.added) (Some (declared_names ds)) [] h.added
    met_alone {ds} none e h = h.is ∙ ap (λ x. with_names (declared_names ds) (with_children h.added x)) (e ∙ ap (annotated []) none)

-- ---- the tree of `properties`

-- a name stands in a list exactly where there is something at it
abbrev is_declared : {X : Type 0} → Name → List (Name × X) → Bool
is_declared n es = is_among n (map (λ e. e.0) es)

found_first : {X : Type 0} (n k : Name) (x : X) (rest : Option X) (b : Bool) → is_some rest ≡ b → is_some (first_if_equal (slice_cmp nat_cmp n k) x rest) ≡ (bytes_eq n k || b)
found_first n k x rest b e = by (slice_cmp nat_cmp n k) (sym (is_eq-slice_cmp n k))
  where
    by : (o : Ordering) → bytes_eq n k ≡ is_eq o → is_some (first_if_equal o x rest) ≡ (bytes_eq n k || b)
    by Less q = e ∙ sym (ap (λ c. c || b) q)
    by Equal q = sym (ap (λ c. c || b) q)
    by Greater q = e ∙ sym (ap (λ c. c || b) q)

declared_found : {X : Type 0} (n : Name) (es : List (Name × X)) → is_some (lookup_name n es) ≡ is_declared n es
declared_found n [] = refl
declared_found n (e ∷ es) = found_first n e.0 e.1 (lookup_name n es) (is_declared n es) (declared_found n es)

module _ {N : Type 0} (t : N → Bool → Data → Path → Tree) (m : N → Data → Question) (u : Bool) (Q : Path) where
  abbrev tree_at : N → Data → Path → Tree
  tree_at n = t n u

  pub wanted_each : (ds : List (Declared N)) → all_wanted (map (wanted_at t m u Q) ds) ≡ (every (λ d. m d.node d.value) ds).accepts u
  wanted_each [] = refl
  wanted_each (d ∷ ds) = ap (λ b. (m d.node d.value).accepts u && b) (wanted_each ds)

  -- all that is met, which is these members; what is shown is valid exactly if each is accepted
  pub all_met : {ds es : List (Declared N)} {o s r : Shown} {q : Question} → ds ≡ es → every (λ d. m d.node d.value) ds ≡ q → o ≡ nothing_shown → s ≡ annotated [] o
      → MeetsMore (wanted_at t m u Q) ds s r → HasMet (wanted_at t m u Q) es (q.accepts u) r
  all_met {ds} {r = r} {q} same asked none e h = subst (λ l. HasMet (wanted_at t m u Q) l (q.accepts u) r) same record {
    children = h.added;
    is = met_alone none e h;
    shown = h.shown;
    valid = all_valid (map (wanted_at t m u Q) ds) h.added h.shown ∙ wanted_each ds ∙ ap (λ p. p.accepts u) asked;
  }

  module _ (es : List (Name × N)) where
    -- the names that are met, and the trees that are wanted there
    named_here : (o : Option N) (b : Bool) (x : Name × Data) (xs : List (Name × Data)) → is_some o ≡ b
        → declared_names (flat_map (λ n. declared_as x.0 n x.1) (option_to_list o)) ++ map (λ y. y.0) xs ≡ map (λ y. y.0) (put_if b x xs)
    named_here None true x xs e = cc
    named_here None false x xs e = refl
    named_here (Some n) true x xs e = refl
    named_here (Some n) false x xs e = cc

    names_there : (xs : List (Name × Data)) → declared_names (members_declared es xs) ≡ map (λ x. x.0) (filter_once (λ x. is_declared x.0 es) xs)
    names_there [] = refl
    names_there (x ∷ xs) =
        map-append (λ d. d.name) (flat_map (λ n. declared_as x.0 n x.1) (option_to_list (lookup_name x.0 es))) (members_declared es xs)
        ∙ ap (λ l. declared_names (flat_map (λ n. declared_as x.0 n x.1) (option_to_list (lookup_name x.0 es))) ++ l) (names_there xs)
        ∙ named_here (lookup_name x.0 es) (is_declared x.0 es) x (filter_once (λ y. is_declared y.0 es) xs) (declared_found x.0 es)

    abbrev trees_at : List (Declared N) → List Tree
    trees_at ds = trees_wanted (map (wanted_at t m u Q) ds)

    tree_here : (o : Option N) (k : Name) (v : Data) → trees_at (flat_map (λ n. declared_as k n v) (option_to_list o)) ≡ map (λ n. t n u v (Q // k)) (option_to_list o)
    tree_here None k v = refl
    tree_here (Some n) k v = refl

    trees_append : (ds cs : List (Declared N)) → trees_at (ds ++ cs) ≡ trees_at ds ++ trees_at cs
    trees_append ds cs = ap trees_wanted (map-append (wanted_at t m u Q) ds cs) ∙ map-append (λ w. w.0) (map (wanted_at t m u Q) ds) (map (wanted_at t m u Q) cs)

    trees_there : (xs : List (Name × Data)) → trees_at (members_declared es xs) ≡ flat_map (λ x. map (λ n. t n u x.1 (Q // x.0)) (option_to_list (lookup_name x.0 es))) xs
    trees_there [] = refl
    trees_there (x ∷ xs) =
        trees_append (flat_map (λ n. declared_as x.0 n x.1) (option_to_list (lookup_name x.0 es))) (members_declared es xs)
        ∙ (λ i. tree_here (lookup_name x.0 es) x.0 x.1 i ++ trees_there xs i)

    -- what is no object
    module _ (P : Path) (v : Data) (none : None ≡ as_object v) {s : Shown} (h : s ≡ shown true None [] []) where
      no_tree : properties_tree tree_at v Q P es [] ≡ plain P Q []
      no_tree = by v none
        where
          by : (w : Data) → None ≡ as_object w → properties_tree tree_at w Q P es [] ≡ plain P Q []
          by (object ms) e = cc
          by w e = refl

      pub no_member_shown : IsShown (properties_tree tree_at v Q P es [], (properties_mean m es v).accepts u) (node_at P Q s)
      no_member_shown = shows_nothing P Q h no_tree (ap (λ q. q.accepts u) (means_nothing es v none m))

      pub nothing_missing_shown : (ns : List Name) (place : Path)
          → IsShown (properties_tree tree_at v Q P es (missing_trees ns v place Q), is_empty (missing ns v) && (properties_mean m es v).accepts u) (node_at P Q s)
      nothing_missing_shown ns place = shown_as no_member_shown
          (ap (λ b. properties_tree tree_at v Q P es (put_if (not b) (erring place Q (required_faults ns v place Q)) [])) (sym (lacks_nothing ns v none)))
          (ap (λ b. b && (properties_mean m es v).accepts u) (sym (lacks_nothing ns v none)))

    -- an object
    module _ (P : Path) (v : Data) (ms : Members) (is : Some ms ≡ as_object v) {s : Shown}
        (h : HasMet (wanted_at t m u Q) (members_declared es (listed ms)) ((properties_mean m es (object ms)).accepts u) s) where
      abbrev wanted_in : List Wanted
      wanted_in = map (wanted_at t m u Q) (members_declared es (listed ms))

      -- the members' children, and others behind them
      beside : (extra : List Wanted) (cs : List Tree) {r : Shown} → AreShown (wanted_in ++ extra) cs → r ≡ shown (list_all is_valid cs) (Some (declared_names (members_declared es (listed ms)))) [] cs
          → IsShown (properties_tree tree_at v Q P es (trees_wanted extra), all_wanted (wanted_in ++ extra)) (node_at P Q r)
      beside extra cs shows e = shown_as (result_shown P Q (Some (declared_names (members_declared es (listed ms)))) false [] [] (wanted_in ++ extra) cs e tt shows)
          ((λ i. result P Q (Some (names_there (listed ms) i)) false []
          ((map-append (λ w. w.0) wanted_in extra ∙ ap (λ l. l ++ trees_wanted extra) (trees_there (listed ms))) i))
          ∙ ap (λ w. properties_tree tree_at w Q P es (trees_wanted extra)) (object_is v ms is)) refl

      as_meant : all_wanted wanted_in ≡ (properties_mean m es v).accepts u
      as_meant = sym (all_valid wanted_in h.children h.shown) ∙ h.valid ∙ ap (λ w. (properties_mean m es w).accepts u) (object_is v ms is)

      -- the members' children alone
      pub alone_shown : IsShown (properties_tree tree_at v Q P es [], (properties_mean m es v).accepts u) (node_at P Q s)
      alone_shown = shown_as (beside [] h.children (subst (λ ws. AreShown ws h.children) (sym (append-nil wanted_in)) h.shown) h.is)
          refl (ap all_wanted (append-nil wanted_in) ∙ as_meant)

      -- and one for names that are missing
      pub beside_shown : (ns : List Name) (place : Path) {r : Shown} → ShowsMore (refused (lacking_trees ns v (object ms) place Q)) s r
          → IsShown (properties_tree tree_at v Q P es (missing_trees ns v place Q), is_empty (missing ns v) && (properties_mean m es v).accepts u) (node_at P Q r)
      beside_shown ns place more =
          let lacking : List Wanted = refused (lacking_trees ns v (object ms) place Q) in
          shown_as (beside lacking (h.children ++ more.added) (shown_append wanted_in lacking h.children more.added h.shown more.shown)
          (more.is ∙ ap (with_children more.added) h.is
          ∙ ap (λ b. shown b (Some (declared_names (members_declared es (listed ms)))) [] (h.children ++ more.added)) (sym (list_all-append is_valid h.children more.added))))
          (ap (properties_tree tree_at v Q P es) (same_trees false (lacking_trees ns v (object ms) place Q) ∙ ap (λ w. lacking_trees ns v w place Q) (object_is v ms is)))
          (list_all-append (λ w. w.1) wanted_in lacking
          ∙ (λ i. as_meant i && (all_there ns v (object ms) place Q ∙ ap (λ w. is_empty (missing ns w)) (object_is v ms is)) i)
          ∙ and_comm ((properties_mean m es v).accepts u) (is_empty (missing ns v)))
