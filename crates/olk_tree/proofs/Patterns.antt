-- What is asked of the members whose names patterns match.
use Rattle.std.proofs.Common.{◌≡◌, Bool, true, false, cond, List, [], ◌∷◌, ◌++◌, None, refl, ap, ◌∙◌}
use Rattle.std.specs.List.{flat_map}
use Rattle.serde_json.specs.Data.{Data}
use Rattle.serde_json.specs.Find.{as_object}
use Rattle.olk_spec.specs.Names.{Name, Path, ◌//◌, filter_once, put_if}
use Rattle.olk_spec.specs.World.{Says}
use Rattle.olk_spec.specs.Faults.{Fault}
use Rattle.olk_base.specs.declared.pattern.CompiledPattern.{CompiledPattern}
use Rattle.olk_tree.specs.Questions.{Question, always, every}
use Rattle.olk_tree.specs.Matched.{is_match}
use Rattle.olk_tree.specs.Firsts.{or_else, first_of}
use Rattle.olk_tree.specs.PatternProperties.{matched_mean, patterns_mean, matched_report, patterns_report, matched_first, patterns_first}
use Rattle.olk_tree.proofs.Questions.{every-nothing}
use Rattle.olk_tree.proofs.Faults.{none_of}
use Rattle.olk_tree.proofs.Members_met.{no_members}

-- ---- those that pass a test, one after another

module _ {X : Type 0} (t : X → Bool) where
  pub each_of_those : {B : Type 0} (f : X → List B) (xs : List X) → flat_map (λ x. cond (t x) (f x) []) xs ≡ flat_map f (filter_once t xs)
  each_of_those f [] = refl
  each_of_those f (x ∷ xs) = ap (λ l. cond (t x) (f x) [] ++ l) (each_of_those f xs) ∙ by (t x)
    where
      by : (b : Bool) → cond b (f x) [] ++ flat_map f (filter_once t xs) ≡ flat_map f (put_if b x (filter_once t xs))
      by true = refl
      by false = refl

  pub first_of_those : (f : X → List Fault) (xs : List X) → first_of (λ x. cond (t x) (f x) []) xs ≡ first_of f (filter_once t xs)
  first_of_those f [] = refl
  first_of_those f (x ∷ xs) = ap (or_else _) (first_of_those f xs) ∙ by (t x)
    where
      by : (b : Bool) → or_else (cond b (f x) []) (first_of f (filter_once t xs)) ≡ first_of f (put_if b x (filter_once t xs))
      by true = refl
      by false = refl

-- ---- of what is no object

module _ {R N : Type 0} (answers : R → Name → Says) (v : Data) (none : None ≡ as_object v) where
  module _ (costs : R → Bool) (m : N → Data → Question) where
    pub matched_nothing : (p : CompiledPattern R) (n : N) → matched_mean answers costs m p n v ≡ always true
    matched_nothing p n = ap (every _) (no_members v none)

    pub patterns_nothing : (es : List (CompiledPattern R × N)) → patterns_mean answers costs m es v ≡ always true
    patterns_nothing es = (λ i. every (λ e. matched_nothing e.0 e.1 i) es) ∙ every-nothing es

  module _ (r : N → Bool → Data → Path → List Fault) (u : Bool) (Q : Path) where
    pub matched_finds_nothing : (p : CompiledPattern R) (n : N) → matched_report answers r u p n v Q ≡ []
    matched_finds_nothing p n = λ i. flat_map (λ (x : Name × Data). r n u x.1 (Q // x.0)) (filter_once (λ x. is_match answers u p x.0) (no_members v none i))

    pub patterns_find_nothing : (es : List (CompiledPattern R × N)) → patterns_report answers r u es v Q ≡ []
    patterns_find_nothing es = (λ i. flat_map (λ e. matched_finds_nothing e.0 e.1 i) es) ∙ none_of es

    pub matched_first_nothing : (p : CompiledPattern R) (n : N) → matched_first answers r u p n v Q ≡ []
    matched_first_nothing p n = λ i. first_of (λ (x : Name × Data). r n u x.1 (Q // x.0)) (filter_once (λ x. is_match answers u p x.0) (no_members v none i))

    pub patterns_first_nothing : (es : List (CompiledPattern R × N)) → patterns_first answers r u es v Q ≡ []
    patterns_first_nothing es = ap (first_of _) (no_members v none)
