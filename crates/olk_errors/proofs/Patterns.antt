-- What asking the members whose names patterns match comes to, over the members and the patterns of a walk.
use Rattle.std.proofs.Common.{◌≡◌, ◌⊎◌, inl, inr, Bool, true, false, cond, List, [], ◌∷◌, ◌++◌, None, sym, ap, subst, ◌∙◌}
use Rattle.std.specs.List.{flat_map, Contains}
use Rattle.std.proofs.lemmas.List.Elements.{Contains-append_left, Contains-append_right, Contains-append_cases}
use Rattle.serde_json.specs.Data.{Data, Members, object}
use Rattle.serde_json.specs.Find.{as_object}
use Rattle.olk_spec.specs.Names.{Name, Path, ◌//◌}
use Rattle.olk_spec.specs.World.{Says}
use Rattle.olk_spec.specs.Faults.{Fault}
use Rattle.olk_spec.specs.Schemas.{listed}
use Rattle.olk_base.specs.declared.pattern.CompiledPattern.{CompiledPattern}
use Rattle.olk_tree.specs.Questions.{Question, always, conditional, every}
use Rattle.olk_tree.specs.Matched.{is_match, match_question}
use Rattle.olk_tree.specs.PatternProperties.{inside_out}
use Rattle.olk_tree.proofs.Patterns.{each_of_those, first_of_those, matched_nothing, patterns_nothing, matched_finds_nothing, patterns_find_nothing, matched_first_nothing, patterns_first_nothing}
use Rattle.olk_errors.specs.Found.{Outcome, Passes, IsErrorOf}
use Rattle.olk_errors.specs.Outcomes.{of_each, of_node, of_match, of_matched, of_matching, of_patterns}
use Rattle.olk_errors.proofs.Sinks.{unasked, contains_none}

-- ---- each item of one list with each of another

in_second : {P Q S : Type 0} → (Q → S) → (P ⊎ Q) → P ⊎ S
in_second h (inl p) = inl p
in_second h (inr q) = inr (h q)

module _ {B : Type 0} where
  contains_either : (a c : B → List Fault) (f : Fault) → ((y : B) → Contains (a y) f → Contains (c y) f) → (y : B) (ys : List B)
      → (Contains (flat_map a ys) f → Contains (flat_map c ys) f) → (Contains (a y) f ⊎ Contains (flat_map a ys) f) → Contains (flat_map c (y ∷ ys)) f
  contains_either a c f h y ys more (inl here) = Contains-append_left (c y) (flat_map c ys) f (h y here)
  contains_either a c f h y ys more (inr later) = Contains-append_right (c y) (flat_map c ys) f (more later)

  contains_each : (a c : B → List Fault) (f : Fault) → ((y : B) → Contains (a y) f → Contains (c y) f) → (ys : List B) → Contains (flat_map a ys) f → Contains (flat_map c ys) f
  contains_each a c f h [] k = k
  contains_each a c f h (y ∷ ys) k = contains_either a c f h y ys (contains_each a c f h ys) (Contains-append_cases (a y) (flat_map a ys) f k)

  -- what is in one of two lists is in both together, one after the other at each item
  contains_beside : (a c : B → List Fault) (f : Fault) (ys : List B) → (Contains (flat_map a ys) f ⊎ Contains (flat_map c ys) f) → Contains (flat_map (λ y. a y ++ c y) ys) f
  contains_beside a c f ys (inl k) = contains_each a (λ y. a y ++ c y) f (λ y. Contains-append_left (a y) (c y) f) ys k
  contains_beside a c f ys (inr k) = contains_each c (λ y. a y ++ c y) f (λ y. Contains-append_right (a y) (c y) f) ys k

  contains_inside_out : {A : Type 0} (g : A → B → List Fault) (f : Fault) (xs : List A) (ys : List B)
      → Contains (flat_map (λ x. flat_map (g x) ys) xs) f → Contains (flat_map (λ y. flat_map (λ x. g x y) xs) ys) f
  contains_inside_out g f [] ys k = absurd (contains_none f k)
  contains_inside_out g f (x ∷ xs) ys k = contains_beside (g x) (λ y. flat_map (λ z. g z y) xs) f ys
      (in_second (contains_inside_out g f xs ys) (Contains-append_cases (flat_map (g x) ys) (flat_map (λ z. flat_map (g z) ys) xs) f k))

module _ {R N : Type 0} (answers : R → Name → Says) (costs : R → Bool) (m : N → Data → Question) (s r : N → Bool → Data → Path → List Fault) (u : Bool) (Q : Path) where
  -- ---- a pattern and a member

  module _ (p : CompiledPattern R) (n : N) (x : Name) (w : Data) where
    pub unmatched : false ≡ is_match answers u p x → of_match answers costs m s r u p n x w Q ≡ unasked
    unmatched differs = λ i. record { accepts = cond (sym differs i) ((m n w).accepts u) true; first = cond (sym differs i) (s n u w (Q // x)) []; all = cond (sym differs i) (r n u w (Q // x)) [] }

    -- where it matches, the node is asked, with the same answer
    pub matched_as_node : {t : Bool} → t ≡ u → true ≡ is_match answers u p x → of_node m s r t n w (Q // x) ≡ of_match answers costs m s r u p n x w Q
    matched_as_node same is = ap (λ b. of_node m s r b n w (Q // x)) same ∙ (λ i. record {
      accepts = cond (is i) ((m n w).accepts u) true;
      first = cond (is i) (s n u w (Q // x)) [];
      all = cond (is i) (r n u w (Q // x)) [];
    })

  -- ---- all members, or all patterns

  abbrev match_at : CompiledPattern R × N → Name × Data → Outcome
  match_at e x = of_match answers costs m s r u e.0 e.1 x.0 x.1 Q

  abbrev asked_at : CompiledPattern R × N → Name × Data → Question
  asked_at e x = conditional (match_question answers costs e.0 x.0) (m e.1 x.1) (always true)

  pub matched_of_walk : (p : CompiledPattern R) (n : N) (ms : Members)
      → of_each u (asked_at (p, n)) (λ x. (match_at (p, n) x).first) (λ x. (match_at (p, n) x).all) (listed ms) ≡ of_matched answers costs m s r u p n (object ms) Q
  matched_of_walk p n ms = λ i. record {
    accepts = (every (asked_at (p, n)) (listed ms)).accepts u;
    first = first_of_those (λ x. is_match answers u p x.0) (λ x. s n u x.1 (Q // x.0)) (listed ms) i;
    all = each_of_those (λ x. is_match answers u p x.0) (λ x. r n u x.1 (Q // x.0)) (listed ms) i;
  }

  pub matching_of_walk : (es : List (CompiledPattern R × N)) (x : Name) (w : Data)
      → of_each u (λ e. asked_at e (x, w)) (λ e. (match_at e (x, w)).first) (λ e. (match_at e (x, w)).all) es ≡ of_matching answers costs m s r u es x w Q
  matching_of_walk es x w = λ i. record {
    accepts = (every (λ e. asked_at e (x, w)) es).accepts u;
    first = first_of_those (λ e. is_match answers u e.0 x) (λ e. s e.1 u w (Q // x)) es i;
    all = each_of_those (λ e. is_match answers u e.0 x) (λ e. r e.1 u w (Q // x)) es i;
  }

  -- ---- all patterns and all members

  module _ (es : List (CompiledPattern R × N)) (ms : Members) where
    abbrev pub by_members : Outcome
    by_members = of_each u (λ x. every (λ e. asked_at e x) es) (λ x. (of_matching answers costs m s r u es x.0 x.1 Q).first) (λ x. (of_matching answers costs m s r u es x.0 x.1 Q).all) (listed ms)

    pub patterns_pass : Passes by_members → Passes (of_patterns answers costs m s r u es (object ms) Q)
    patterns_pass h = record { verdict = sym (inside_out u asked_at es (listed ms)) ∙ h.verdict; nothing = h.nothing }

    -- what is found member by member is found pattern by pattern
    found_by_patterns : (f : Fault) → Contains by_members.all f → Contains (of_patterns answers costs m s r u es (object ms) Q).all f
    found_by_patterns f k = subst (λ l. Contains l f) (λ i. flat_map (λ e. each_of_those (λ x. is_match answers u e.0 x.0) (λ x. r e.1 u x.1 (Q // x.0)) (listed ms) i) es)
        (contains_inside_out (λ x e. cond (is_match answers u e.0 x.0) (r e.1 u x.1 (Q // x.0)) []) f (listed ms) es
        (subst (λ l. Contains l f) (λ i. flat_map (λ (x : Name × Data). sym (each_of_those (λ e. is_match answers u e.0 x.0) (λ e. r e.1 u x.1 (Q // x.0)) es) i) (listed ms)) k))

    pub patterns_err : (f : Fault) → IsErrorOf by_members f → IsErrorOf (of_patterns answers costs m s r u es (object ms) Q) f
    patterns_err f told = record {
      verdict = sym (inside_out u asked_at es (listed ms)) ∙ told.verdict;
      of_first = told.of_first;
      of_all = record { whole = told.of_all.whole; among = found_by_patterns told.of_all.whole told.of_all.among; like = told.of_all.like };
    }

  -- ---- of what is no object

  module _ (v : Data) (none : None ≡ as_object v) where
    pub other_matched : (p : CompiledPattern R) (n : N) → of_matched answers costs m s r u p n v Q ≡ unasked
    other_matched p n = λ i. record {
      accepts = (matched_nothing answers v none costs m p n i).accepts u;
      first = matched_first_nothing answers v none s u Q p n i;
      all = matched_finds_nothing answers v none r u Q p n i;
    }

    pub other_patterns : (es : List (CompiledPattern R × N)) → of_patterns answers costs m s r u es v Q ≡ unasked
    other_patterns es = λ i. record {
      accepts = (patterns_nothing answers v none costs m es i).accepts u;
      first = patterns_first_nothing answers v none s u Q es i;
      all = patterns_find_nothing answers v none r u Q es i;
    }
