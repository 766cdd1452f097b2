-- What has the form that is chosen for it.
use Rattle.std.specs.Prelude.{◌≡◌, ℕ, suc, ◌+◌, ◌==◌, Bool, true, false, ◌||◌, List, [], ◌∷◌, length, slice_get, Some}
use Rattle.std.specs.List.{list_all, enumerate_from}
use Rattle.std.proofs.Common.{refl, ◌∙◌, ap, subst, arith}
use Rattle.std.proofs.lemmas.Bool.Decides.{Decides-eqb}
use Rattle.std.proofs.lemmas.Slice.Eq.{slice_eq-Decides, bytes_eq-Decides}
use Rattle.olk_spec.specs.Names.{Name, is_empty}
use Rattle.olk_spec.specs.World.{Says, matched}
use Rattle.olk_spec.proofs.Truth.{and_from}
use Rattle.olk_base.specs.Compiled.{pattern_answers}
use Rattle.olk_base.specs.declared.pattern.CompiledPattern.{CompiledPattern}
use Rattle.olk_tree.specs.Tables.{Table, table_says, IsTableOf}
use Rattle.olk_tree.specs.Formed.{is_same_answer, has_answers, is_table_formed}

-- ---- each element with its place

module _ {X : Type 0} (f : ℕ × X → Bool) where
  placed_from : (k : ℕ) (xs : List X) → ((i : ℕ) (x : X) → slice_get xs i ≡ Some x → f (k + i, x) ≡ true) → list_all f (enumerate_from k xs) ≡ true
  placed_from k [] h = refl
  placed_from k (x ∷ xs) h = and_from (f (k, x)) _
      (subst (λ p. f (p, x) ≡ true) (omega arith) (h 0 x refl))
      (placed_from (k + 1) xs (λ i y at. subst (λ p. f (p, y) ≡ true) (omega arith) (h (suc i) y at)))

  all_placed : (xs : List X) → ((i : ℕ) (x : X) → slice_get xs i ≡ Some x → f (i, x) ≡ true) → list_all f (enumerate_from 0 xs) ≡ true
  all_placed xs h = placed_from 0 xs (λ i x at. subst (λ p. f (p, x) ≡ true) (omega arith) (h i x at))

-- ---- the table of patterns

same_answer : (s t : Says) → s ≡ t → is_same_answer s t ≡ true
same_answer s t e = subst (λ x. is_same_answer s x ≡ true) e (itself s)
  where
    itself : (s : Says) → is_same_answer s s ≡ true
    itself matched = refl
    itself _ = refl

module _ {R : Type 0} (answers : R → Name → Says) (names : List Name) (patterns : List (CompiledPattern R)) (t : Table) (declared : t.names ≡ names) (h : IsTableOf answers patterns t) where
  answers_there : has_answers answers names patterns t ≡ true
  answers_there = all_placed _ names
      (λ i n at. all_placed (λ p. is_same_answer (table_says t i p.0) (pattern_answers answers p.1 n)) patterns
      (λ j p there. same_answer (table_says t i j) (pattern_answers answers p n) (h.says i j n p (ap (λ ns. slice_get ns i) declared ∙ at) there)))

  counted : (is_empty names || (t.patterns == length patterns)) ≡ true
  counted = by (is_empty names) refl
    where
      by : (b : Bool) → is_empty names ≡ b → (b || (t.patterns == length patterns)) ≡ true
      by true e = refl
      by false e = (Decides-eqb t.patterns _).1 (h.count (ap is_empty declared ∙ e))

  pub table_formed : is_table_formed answers names patterns t ≡ true
  table_formed = and_from _ _ (and_from _ _ ((slice_eq-Decides bytes_eq-Decides t.names names _ refl).1 declared) counted) answers_there
