-- Members that are met because patterns match their names.
use Rattle.std.proofs.Common.{◌≡◌, Bool, true, false, ◌&&◌, cond, List, [], ◌∷◌, ◌++◌, map, Some, None, refl, sym, ap, subst, ◌∙◌}
use Rattle.std.specs.List.{flat_map}
use Rattle.std.proofs.lemmas.List.{append-nil, map-append}
use Rattle.std.proofs.Math.Bool.{and-true}
use Rattle.serde_json.specs.Data.{Data, Members, object}
use Rattle.serde_json.specs.Find.{as_object}
use Rattle.olk_spec.specs.Names.{Name, Path, ◌//◌, filter_once, put_if}
use Rattle.olk_spec.specs.World.{Says}
use Rattle.olk_spec.specs.Schemas.{members, is_object}
use Rattle.olk_spec.specs.Tree.{Tree, result}
use Rattle.olk_base.specs.declared.pattern.CompiledPattern.{CompiledPattern}
use Rattle.olk_tree.specs.Questions.{Question, always, conditional, every}
use Rattle.olk_tree.specs.Matched.{is_match, matched, match_question}
use Rattle.olk_tree.specs.PatternProperties.{matched_mean, patterns_mean}
use Rattle.olk_tree.specs.Shown.{match_trees, match_names, patterns_tree}
use Rattle.olk_tree.specs.Visited.{Declared, declared_as}
use Rattle.olk_tree.proofs.Questions.{every-flat_map}
use Rattle.olk_tree.proofs.Members_met.{no_members, object_is}
use Rattle.olk_tree.proofs.Patterns.{patterns_nothing}
use Rattle.olk_reports.specs.Evaluations.{Shown, shown, nothing_shown, annotated, node_at}
use Rattle.olk_evaluate.specs.Wanted.{Wanted, IsShown}
use Rattle.olk_evaluate.specs.Members.{MeetsMore, wanted_at}
use Rattle.olk_evaluate.specs.Patterns.{matches_of, matches_of_all}
use Rattle.olk_evaluate.proofs.Children.{trees_wanted, shown_as, result_shown, shows_nothing, those_next}
use Rattle.olk_evaluate.proofs.Members.{met_alone, wanted_each}

pub nothing_each : {X B : Type 0} (xs : List X) → flat_map (λ x. let none : List B = [] in none) xs ≡ []
nothing_each [] = refl
nothing_each (x ∷ xs) = nothing_each xs

pub no_object : (v : Data) → None ≡ as_object v → is_object v ≡ false
no_object (object ms) e = cc
no_object v e = refl

-- the members whose names a pattern matches
module _ {R : Type 0} (answers : R → Name → Says) where
  abbrev pub matches_among : Bool → CompiledPattern R → List (Name × Data) → List (Name × Data)
  matches_among u p = filter_once (λ x. is_match answers u p x.0)

  -- one is next, or it is not among them
  pub match_next : (p : CompiledPattern R) {left rest : List (Name × Data)} {x : Name × Data} {b u w : Bool}
      → left ≡ x ∷ rest → b ≡ is_match answers w p x.0 → w ≡ u → matches_among u p left ≡ put_if b x (matches_among u p rest)
  match_next p {x = x} next e same = those_next _ next (e ∙ ap (λ u. is_match answers u p x.0) same)

module _ {R N : Type 0} (answers : R → Name → Says) (t : N → Bool → Data → Path → Tree) (m : N → Data → Question) (u : Bool) (Q : Path) where
  module _ (v : Data) where
    names_of : (n : N) (xs : List (Name × Data)) → map (λ d. d.name) (flat_map (λ x. declared_as x.0 n x.1) xs) ≡ map (λ x. x.0) xs
    names_of n [] = refl
    names_of n (x ∷ xs) = ap (λ l. x.0 ∷ l) (names_of n xs)

    names_of_all : (es : List (CompiledPattern R × N)) → map (λ d. d.name) (matches_of_all answers u es v) ≡ match_names (λ n. t n u) v Q answers u es
    names_of_all [] = refl
    names_of_all (e ∷ es) = map-append (λ d. d.name) (matches_of answers u e.0 e.1 v) (matches_of_all answers u es v) ∙ (λ i. names_of e.1 (matched answers u e.0 v) i ++ names_of_all es i)

    trees_of_each : (n : N) (xs : List (Name × Data)) → trees_wanted (map (wanted_at t m u Q) (flat_map (λ x. declared_as x.0 n x.1) xs)) ≡ map (λ x. t n u x.1 (Q // x.0)) xs
    trees_of_each n [] = refl
    trees_of_each n (x ∷ xs) = ap (λ l. t n u x.1 (Q // x.0) ∷ l) (trees_of_each n xs)

    trees_of_all : (es : List (CompiledPattern R × N)) → trees_wanted (map (wanted_at t m u Q) (matches_of_all answers u es v)) ≡ match_trees (λ n. t n u) v Q answers u es
    trees_of_all [] = refl
    trees_of_all (e ∷ es) =
        ap trees_wanted (map-append (wanted_at t m u Q) (matches_of answers u e.0 e.1 v) (matches_of_all answers u es v))
        ∙ map-append (λ w. w.0) (map (wanted_at t m u Q) (matches_of answers u e.0 e.1 v)) (map (wanted_at t m u Q) (matches_of_all answers u es v))
        ∙ (λ i. trees_of_each e.1 (matched answers u e.0 v) i ++ trees_of_all es i)

    module _ (costs : R → Bool) where
      abbrev asked_at : CompiledPattern R → N → Name × Data → Question
      asked_at p n x = conditional (match_question answers costs p x.0) (m n x.1) (always true)

      matches_accepted : (p : CompiledPattern R) (n : N) (xs : List (Name × Data))
          → (every (λ d. m d.node d.value) (flat_map (λ x. declared_as x.0 n x.1) (filter_once (λ x. is_match answers u p x.0) xs))).accepts u ≡ (every (asked_at p n) xs).accepts u
      matches_accepted p n [] = refl
      matches_accepted p n (x ∷ xs) = by (is_match answers u p x.0) (matches_accepted p n xs)
        where
          by : (b : Bool) → (every (λ d. m d.node d.value) (flat_map (λ x. declared_as x.0 n x.1) (filter_once (λ x. is_match answers u p x.0) xs))).accepts u ≡ (every (asked_at p n) xs).accepts u
              → (every (λ d. m d.node d.value) (flat_map (λ x. declared_as x.0 n x.1) (put_if b x (filter_once (λ x. is_match answers u p x.0) xs)))).accepts u ≡
              (cond b ((m n x.1).accepts u) true && (every (asked_at p n) xs).accepts u)
          by true e = ap (λ b. (m n x.1).accepts u && b) e
          by false e = e

      all_accepted : (es : List (CompiledPattern R × N)) → (every (λ e. every (λ d. m d.node d.value) (matches_of answers u e.0 e.1 v)) es).accepts u ≡ (patterns_mean answers costs m es v).accepts u
      all_accepted [] = refl
      all_accepted (e ∷ es) = λ i. matches_accepted e.0 e.1 (members v) i && all_accepted es i

      pub patterns_accepted : (es : List (CompiledPattern R × N)) → (every (λ d. m d.node d.value) (matches_of_all answers u es v)).accepts u ≡ (patterns_mean answers costs m es v).accepts u
      patterns_accepted es = ap (λ q. q.accepts u) (every-flat_map (λ d. m d.node d.value) (λ e. matches_of answers u e.0 e.1 v) es) ∙ all_accepted es

  module _ (es : List (CompiledPattern R × N)) where
    -- of what is no object
    pub other_shown : (v : Data) → None ≡ as_object v → {s : Shown} → s ≡ shown true None [] [] → (costs : R → Bool) (P : Path)
        → IsShown (patterns_tree (λ n. t n u) v Q answers u P es, (patterns_mean answers costs m es v).accepts u) (node_at P Q s)
    other_shown v none h costs P = shows_nothing P Q h
        (λ i. result P Q (cond (no_object v none i) (Some (match_names (λ n. t n u) v Q answers u es)) None) false [] (no_trees i)) (ap (λ q. q.accepts u) (patterns_nothing answers v none costs m es))
      where
        no_trees : match_trees (λ n. t n u) v Q answers u es ≡ []
        no_trees =
            (λ i. flat_map (λ (e : CompiledPattern R × N). map (λ (x : Name × Data). t e.1 u x.1 (Q // x.0)) (filter_once (λ x. is_match answers u e.0 x.0) (no_members v none i))) es)
            ∙ nothing_each es

    -- of an object
    pub patterns_shown : (v : Data) (ms : Members) → Some ms ≡ as_object v → {o s r : Shown} → o ≡ nothing_shown → s ≡ annotated [] o
        → MeetsMore (wanted_at t m u Q) (matches_of_all answers u es (object ms)) s r → (costs : R → Bool) (P : Path)
        → IsShown (patterns_tree (λ n. t n u) v Q answers u P es, (patterns_mean answers costs m es v).accepts u) (node_at P Q r)
    patterns_shown v ms is none e h costs P = shown_as
        (result_shown P Q (Some (map (λ d. d.name) (matches_of_all answers u es (object ms)))) false [] [] (map (wanted_at t m u Q) (matches_of_all answers u es (object ms))) h.added (met_alone none e h) tt h.shown)
        ((λ i. result P Q (Some (names_of_all (object ms) es i)) false [] (trees_of_all (object ms) es i))
        ∙ ap (λ w. patterns_tree (λ n. t n u) w Q answers u P es) (object_is v ms is))
        (wanted_each t m u Q (matches_of_all answers u es (object ms)) ∙ patterns_accepted (object ms) costs es ∙ ap (λ w. (patterns_mean answers costs m es w).accepts u) (object_is v ms is))

-- ---- one pattern

module _ {R N : Type 0} (answers : R → Name → Says) (u : Bool) (p : CompiledPattern R) (n : N) (v : Data) where
  pub meets_matched : {want : Declared N → Wanted} {a b : Shown} → MeetsMore want (matches_of answers u p n v) a b → MeetsMore want (matches_of_all answers u ((p, n) ∷ []) v) a b
  meets_matched {want} {a} {b} h = subst (λ ds. MeetsMore want ds a b) (sym (append-nil (matches_of answers u p n v))) h

  pub mean_of_one : (costs : R → Bool) (m : N → Data → Question) → (patterns_mean answers costs m ((p, n) ∷ []) v).accepts u ≡ (matched_mean answers costs m p n v).accepts u
  mean_of_one costs m = and-true ((matched_mean answers costs m p n v).accepts u)
