-- A schema accepts exactly where it finds no fault.
use Rattle.std.specs.Prelude.{◌≡◌, ⊤, ℕ, Bool, true, false, not, ◌&&◌, ◌||◌, ◌==◌, nat_lt, List, [], ◌∷◌, ◌++◌, map}
use Rattle.std.specs.List.{flat_map, list_all}
use Rattle.std.proofs.Common.{refl, sym, ◌∙◌}
use native.Mathlib.Omega.{arith}
use Rattle.serde_json.specs.Data.{Data, string}
use Rattle.olk_spec.specs.Names.{Name, Path, ◌//◌, put_if, is_empty}
use Rattle.olk_spec.specs.World.{World}
use Rattle.olk_spec.specs.Vocabulary.{Keyword, additional_properties, property_names, required, dependent_required, dependencies, any_of, one_of, not_keyword, leaf}
use Rattle.olk_spec.specs.Schemas.{is_object, is_truth, Schema, truth, keywords, Keywords, Part, members}
use Rattle.olk_spec.specs.Meanings.{Meaning, holds, applied}
use Rattle.olk_spec.specs.Accepts.{wanted, keyword_accepts, missing, due}
use Rattle.olk_spec.specs.Faults.{fault, FalseSchema, Required, Kind}
use Rattle.olk_spec.specs.Reports.{fault_if, required_faults, unexpected_faults, wrapped, own, keyword_report}
use Rattle.olk_spec.specs.Meaning.{meaning, meaning_step}
use Rattle.olk_spec.specs.Laws.{Verdict_of_reports}
use Rattle.olk_spec.proofs.Each.{Each, Each-implies, Each-any}
use Rattle.olk_spec.proofs.Applied.{GoodAsked, applied_good}
use Rattle.olk_spec.proofs.Induction.{good_answer, GoodSchema, GoodPart}

-- ---- lists

pub is_empty-append : {A : Type 0} (xs ys : List A) → is_empty (xs ++ ys) ≡ (is_empty xs && is_empty ys)
is_empty-append [] ys = refl
is_empty-append (x ∷ xs) ys = refl

pub is_empty-nil : {A : Type 0} (xs : List A) → is_empty (xs ++ []) ≡ is_empty xs
is_empty-nil [] = refl
is_empty-nil (x ∷ xs) = refl

module _ {A B : Type 0} where
  pub is_empty-map : (f : A → B) (xs : List A) → is_empty (map f xs) ≡ is_empty xs
  is_empty-map f [] = refl
  is_empty-map f (x ∷ xs) = refl

  pub all_empty : (f : A → Bool) (g : A → List B) (xs : List A) → Each (λ x. f x ≡ is_empty (g x)) xs → list_all f xs ≡ is_empty (flat_map g xs)
  all_empty f g [] h = refl
  all_empty f g (x ∷ xs) h = (λ i. h.0 i && all_empty f g xs h.1 i) ∙ sym (is_empty-append (g x) (flat_map g xs))

  -- where a test holds
  pub empty_where : (b c : Bool) (x : A) (g : A → List B) → c ≡ is_empty (g x) → (not b || c) ≡ is_empty (flat_map g (put_if b x []))
  empty_where true c x g e = e ∙ sym (is_empty-nil _)
  empty_where false c x g e = refl

-- a verdict that two lists of faults share
both_empty : {A : Type 0} (a b : Bool) (xs ys : List A) → a ≡ is_empty xs → b ≡ is_empty ys → (a && b) ≡ is_empty (xs ++ ys)
both_empty a b xs ys e f = (λ i. e i && f i) ∙ sym (is_empty-append xs ys)

pub none_if : (b : Bool) (k : Kind) (v : Data) (P Q : Path) → not b ≡ is_empty (fault_if b k v P Q)
none_if true k v P Q = refl
none_if false k v P Q = refl

-- ---- truth values

not_both : (f e : Bool) → (not f || e) ≡ not (f && not e)
not_both true true = refl
not_both _ _ = refl

not_not : (b : Bool) → b ≡ not (not b)
not_not true = refl
not_not false = refl

pub exactly_one : (n : ℕ) → (n == 1) ≡ (not (n == 0) && not (nat_lt 1 n))
exactly_one n = grind arith

-- ---- the rows

pub unexpected_row : (named : Bool) (ms : List (Name × Data)) (v : Data) (P Q : Path) → is_empty ms ≡ is_empty (unexpected_faults named ms v P Q)
unexpected_row named [] v P Q = refl
unexpected_row true (m ∷ ms) v P Q = refl
unexpected_row false (m ∷ ms) v P Q = refl

pub additional_own_row : (W : World) (u : Bool) (S : Keywords Meaning) (k : Name) (p : Part Meaning) (v : Data) (P Q : Path) → wanted W u S k p v additional_properties ≡ is_empty (own W u S k p v P Q additional_properties)
additional_own_row W u S k p v P Q = empty_where (is_truth false p.whole.schema) (is_empty _) p.whole (λ s. unexpected_faults _ _ v _ Q) (unexpected_row _ _ v _ Q)

module _ (W : World) (u : Bool) where
  abbrev pub Agrees : Data → Meaning → Type 0
  Agrees d m = (v : Data) (P Q : Path) → m.accepts v ≡ is_empty (m.report v P Q)

  module _ (S : Keywords Meaning) (k : Name) (p : Part Meaning) (h : GoodPart Agrees p) (v : Data) where
    module _ (P Q : Path) where
      required_row : (ns : List Name) (P' : Path) → is_empty (missing ns v) ≡ is_empty (required_faults ns v P' Q)
      required_row ns P' = sym (is_empty-map (λ n. fault (Required n) v Q P') (missing ns v))

      due_row : list_all (λ e. is_empty (missing e.1 v)) (due p v) ≡ is_empty (flat_map (λ e. required_faults e.1 v (P // k) Q) (due p v))
      due_row = all_empty (λ e. is_empty (missing e.1 v)) (λ e. required_faults e.1 v (P // k) Q) (due p v) (Each-any (λ e. is_empty (missing e.1 v) ≡ is_empty (required_faults e.1 v (P // k) Q)) (λ e. required_row e.1 (P // k)) (due p v))

      names_row : list_all (λ m. holds p.whole (string m.0)) (members v) ≡ is_empty (flat_map (λ m. map (wrapped v Q) (p.whole.answer.report (string m.0) (P // k) Q)) (members v))
      names_row = all_empty (λ m. holds p.whole (string m.0)) (λ m. map (wrapped v Q) (p.whole.answer.report (string m.0) (P // k) Q)) (members v)
          (Each-any (λ m. holds p.whole (string m.0) ≡ is_empty (map (wrapped v Q) (p.whole.answer.report (string m.0) (P // k) Q))) (λ m. h.0 (string m.0) (P // k) Q ∙ sym (is_empty-map (wrapped v Q) (p.whole.answer.report (string m.0) (P // k) Q))) (members v))

      -- what a keyword wants is what its own faults are of
      pub own_row : (w : Keyword) → wanted W u S k p v w ≡ is_empty (own W u S k p v P Q w)
      own_row additional_properties = additional_own_row W u S k p v P Q
      own_row property_names = both_empty _ _ _ _
          (empty_where (is_object p.whole.schema) _ p.whole (λ s. flat_map (λ m. map _ _) (members v)) names_row)
          (not_both (is_truth false p.whole.schema) (is_empty _) ∙ none_if (is_truth false p.whole.schema && not _) FalseSchema v (P // k) Q)
      own_row required = required_row _ _
      own_row dependent_required = due_row
      own_row dependencies = due_row
      own_row any_of = not_not _ ∙ none_if _ _ v _ Q
      own_row one_of = exactly_one _ ∙ both_empty _ _ _ _
          (none_if _ _ v _ Q)
          (none_if _ _ v _ Q)
      own_row not_keyword = none_if _ _ v _ Q
      own_row leaf = sym (is_empty-map _ _)
      own_row _ = refl

      pub keyword_row : (w : Keyword) → keyword_accepts W u S k p v w ≡ is_empty (keyword_report W u S k p v P Q w)
      keyword_row w = both_empty _ _ _ _
          (all_empty (λ a. holds a.sub a.value) (λ a. a.sub.answer.report a.value _ _) (applied W u S k p v w)
          (Each-implies (GoodAsked Agrees (λ w. ⊤)) _ (λ a g. g.0 a.value _ _) _
          (applied_good Agrees _ W u S k p h v tt (Each-any _ _ _) w)))
          (own_row w)

  keep : (S : Schema Meaning) → GoodSchema Agrees S → (v : Data) (P Q : Path) → (meaning_step W u S).accepts v ≡ is_empty ((meaning_step W u S).report v P Q)
  keep (truth true) h v P Q = refl
  keep (keywords S) h v P Q = all_empty _ _ S
      (Each-implies _ _ (λ m g. keyword_row S m.0 m.1 g v P Q _) S h)
  keep _ h v P Q = refl

pub verdict_of_reports : Verdict_of_reports
unfolding meaning
verdict_of_reports W u S v P Q = good_answer _ (meaning_step W u) (λ d. keep W u _) S v P Q
