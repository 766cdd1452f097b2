-- `patternProperties`: what its validators answer.
use Rattle.std.specs.Prelude.{◌≡◌, Bool, true, false, not, cond, ◌&&◌, List, [], ◌∷◌}
use Rattle.std.specs.List.{flat_map, list_all}
use Rattle.std.proofs.Common.{refl, ◌∙◌}
use Rattle.serde_json.specs.Data.{Data}
use Rattle.olk_spec.specs.Names.{Name, Path, ◌//◌, filter_once, put_if, is_empty}
use Rattle.olk_spec.specs.World.{Says}
use Rattle.olk_spec.specs.Faults.{Fault}
use Rattle.olk_spec.specs.Schemas.{members}
use Rattle.olk_spec.proofs.Walks.{and_middle}
use Rattle.olk_base.specs.declared.pattern.CompiledPattern.{CompiledPattern}
use Rattle.olk_meaning.specs.Chosen.{patterns_form, single_pattern_form}
use Rattle.olk_tree.specs.Answers.{AnswersOver, Meanings, Findings, Agree}
use Rattle.olk_tree.specs.Emptiness.{each_agrees, both_agree, or_else_agrees, first_of_agrees}
use Rattle.olk_tree.specs.Firsts.{first_of}
use Rattle.olk_tree.specs.Formed.{is_one}
use Rattle.olk_tree.specs.Matched.{matched, matching, match_question}
use Rattle.olk_tree.specs.Questions.{Question, always, both, conditional, every}
use Rattle.olk_tree.specs.Shown.{patterns_tree}
use Rattle.olk_tree.specs.declared.pattern_properties.PatternProperties.{PatternProperties}
use Rattle.olk_tree.specs.declared.pattern_properties.SingleValuePatternProperties.{SingleValuePatternProperties}

module _ {R N : Type 0} (answers : R → Name → Says) where
  -- each member whose name a pattern matches, with the pattern's node
  module _ (costs : R → Bool) (m : Meanings N) where
    abbrev pub matched_mean : CompiledPattern R → N → Data → Question
    matched_mean p n v = every (λ x. conditional (match_question answers costs p x.0) (m n x.1) (always true)) (members v)

    abbrev pub patterns_mean : List (CompiledPattern R × N) → Data → Question
    patterns_mean es v = every (λ e. matched_mean e.0 e.1 v) es

  -- what the nodes find at these members, pattern by pattern
  module _ (r : Findings N) (u : Bool) where
    abbrev pub matched_report : CompiledPattern R → N → Data → Path → List Fault
    matched_report p n v Q = flat_map (λ x. r n u x.1 (Q // x.0)) (matched answers u p v)

    abbrev pub patterns_report : List (CompiledPattern R × N) → Data → Path → List Fault
    patterns_report es v Q = flat_map (λ e. matched_report e.0 e.1 v Q) es

  -- and at the first of these members that is refused, by the first pattern whose node refuses it
  module _ (s : Findings N) (u : Bool) where
    abbrev pub matched_first : CompiledPattern R → N → Data → Path → List Fault
    matched_first p n v Q = first_of (λ x. s n u x.1 (Q // x.0)) (matched answers u p v)

    abbrev pub patterns_first : List (CompiledPattern R × N) → Data → Path → List Fault
    patterns_first es v Q = first_of (λ x. first_of (λ e. s e.1 u x.1 (Q // x.0)) (matching answers u es x.0)) (members v)

-- what is found in those that pass a test, where they are asked a question only if they pass
module _ {X : Type 0} (f : X → List Fault) (p q : X → Question) (u : Bool) (h : (x : X) → is_empty (f x) ≡ (q x).accepts u) where
  abbrev passing : List X → List X
  passing xs = filter_once (λ x. (p x).accepts u) xs

  abbrev asked : List X → Bool
  asked xs = (every (λ x. conditional (p x) (q x) (always true)) xs).accepts u

  pub those_agree : (xs : List X) → is_empty (flat_map f (passing xs)) ≡ asked xs
  those_agree [] = refl
  those_agree (x ∷ xs) = by ((p x).accepts u) (those_agree xs)
    where
      by : (b : Bool) → is_empty (flat_map f (passing xs)) ≡ asked xs → is_empty (flat_map f (put_if b x (passing xs))) ≡ (cond b ((q x).accepts u) true && asked xs)
      by true e = both_agree (f x) (flat_map f (passing xs)) (h x) e
      by false e = e

  pub first_of_those_agree : (xs : List X) → is_empty (first_of f (passing xs)) ≡ asked xs
  first_of_those_agree [] = refl
  first_of_those_agree (x ∷ xs) = by ((p x).accepts u) (first_of_those_agree xs)
    where
      by : (b : Bool) → is_empty (first_of f (passing xs)) ≡ asked xs → is_empty (first_of f (put_if b x (passing xs))) ≡ (cond b ((q x).accepts u) true && asked xs)
      by true e = or_else_agrees (f x) (first_of f (passing xs)) (h x) e
      by false e = e

-- each of one list with each of another is accepted, whichever of the lists is walked outside
module _ {X : Type 0} (u : Bool) where
  both_each : (f g : X → Question) (xs : List X) → ((every f xs).accepts u && (every g xs).accepts u) ≡ (every (λ x. both (f x) (g x)) xs).accepts u
  both_each f g [] = refl
  both_each f g (x ∷ xs) = and_middle ((f x).accepts u) ((every f xs).accepts u) ((g x).accepts u) ((every g xs).accepts u) ∙ (λ i. ((f x).accepts u && (g x).accepts u) && both_each f g xs i)

  nothing_each : (xs : List X) → true ≡ (every (λ x. always true) xs).accepts u
  nothing_each [] = refl
  nothing_each (x ∷ xs) = nothing_each xs

  pub inside_out : {Y : Type 0} (g : X → Y → Question) (xs : List X) (ys : List Y) → (every (λ y. every (λ x. g x y) xs) ys).accepts u ≡ (every (λ x. every (g x) ys) xs).accepts u
  inside_out g xs [] = nothing_each xs
  inside_out g xs (y ∷ ys) = (λ i. (every (λ x. g x y) xs).accepts u && inside_out g xs ys i) ∙ both_each (λ x. g x y) (λ x. every (g x) ys) xs

module _ {R N : Type 0} (answers : R → Name → Says) (costs : R → Bool) (m : Meanings N) (r : Findings N) (u : Bool) (h : Agree m r u) where
  pub matched_agree : (p : CompiledPattern R) (n : N) (v : Data) (Q : Path) → is_empty (matched_report answers r u p n v Q) ≡ (matched_mean answers costs m p n v).accepts u
  matched_agree p n v Q = those_agree (λ x. r n u x.1 (Q // x.0)) (λ x. match_question answers costs p x.0) (λ x. m n x.1) u (λ x. h n x.1 (Q // x.0)) (members v)

  pub patterns_agree : (es : List (CompiledPattern R × N)) (v : Data) (Q : Path) → is_empty (patterns_report answers r u es v Q) ≡ (patterns_mean answers costs m es v).accepts u
  patterns_agree es v Q = each_agrees (λ e. matched_report answers r u e.0 e.1 v Q) (λ e. matched_mean answers costs m e.0 e.1 v) u (λ e. matched_agree e.0 e.1 v Q) es

  pub matched_first_agree : (p : CompiledPattern R) (n : N) (v : Data) (Q : Path) → is_empty (matched_first answers r u p n v Q) ≡ (matched_mean answers costs m p n v).accepts u
  matched_first_agree p n v Q = first_of_those_agree (λ x. r n u x.1 (Q // x.0)) (λ x. match_question answers costs p x.0) (λ x. m n x.1) u (λ x. h n x.1 (Q // x.0)) (members v)

  abbrev member_asked : CompiledPattern R × N → Name × Data → Question
  member_asked e x = conditional (match_question answers costs e.0 x.0) (m e.1 x.1) (always true)

  pub patterns_first_agree : (es : List (CompiledPattern R × N)) (v : Data) (Q : Path) → is_empty (patterns_first answers r u es v Q) ≡ (patterns_mean answers costs m es v).accepts u
  patterns_first_agree es v Q =
      first_of_agrees (λ x. first_of (λ e. r e.1 u x.1 (Q // x.0)) (matching answers u es x.0)) (λ x. every (λ e. member_asked e x) es) u
      (λ x. first_of_those_agree (λ e. r e.1 u x.1 (Q // x.0)) (λ e. match_question answers costs e.0 x.0) (λ e. m e.1 x.1) u (λ e. h e.1 x.1 (Q // x.0)) es) (members v)
      ∙ inside_out u member_asked es (members v)

module _ {R N : Type 0} (answers : R → Name → Says) (costs : R → Bool) where
  abbrev pub pattern_properties_answers : PatternProperties R N → AnswersOver N
  pattern_properties_answers k = record {
    means = λ m v. patterns_mean answers costs m k.patterns.items v;
    report = λ m r u v Q. patterns_report answers r u k.patterns.items v Q;
    agrees = λ m r u h v Q. patterns_agree answers costs m r u h k.patterns.items v Q;
    first = λ m r s u v Q. patterns_first answers s u k.patterns.items v Q;
    first_agrees = λ m r s u h v Q. patterns_first_agree answers costs m s u h k.patterns.items v Q;
    tree = λ m t u v Q. patterns_tree (λ n. t n u) v Q answers u k.location k.patterns.items;
    location = k.location;
    formed = λ f. not (is_one k.patterns.items) && list_all (λ e. f e.1) k.patterns.items;
    forms = λ f. (k.location, patterns_form) ∷ flat_map (λ e. f e.1) k.patterns.items;
  }

  abbrev pub single_pattern_properties_answers : SingleValuePatternProperties R N → AnswersOver N
  single_pattern_properties_answers k = record {
    means = λ m v. matched_mean answers costs m k.regex k.node v;
    report = λ m r u v Q. matched_report answers r u k.regex k.node v Q;
    agrees = λ m r u h v Q. matched_agree answers costs m r u h k.regex k.node v Q;
    first = λ m r s u v Q. matched_first answers s u k.regex k.node v Q;
    first_agrees = λ m r s u h v Q. matched_first_agree answers costs m s u h k.regex k.node v Q;
    tree = λ m t u v Q. patterns_tree (λ n. t n u) v Q answers u k.location ((k.regex, k.node) ∷ []);
    location = k.location;
    formed = λ f. f k.node;
    forms = λ f. (k.location, single_pattern_form) ∷ f k.node;
  }
