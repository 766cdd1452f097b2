-- Where there are more members than declared names, one of them is not declared.
use Rattle.std.proofs.Common.{◌≡◌, ◌<◌, ◌≤◌, Bool, false, ◌&&◌, List, [], ◌∷◌, length, Option, None, Ordering, Less, Equal, Greater, refl, sym, ap, subst, ◌∙◌, arith}
use Rattle.std.specs.Ordering.{nat_cmp, ordering_reverse}
use Rattle.std.specs.Cmp.Lexicographic.{slice_cmp}
use Rattle.std.specs.FinMap.{slice_cmp-IsAntisymmetric, nat_cmp-IsAntisymmetric}
use Rattle.std.proofs.lemmas.Cmp.{nat_list_cmp_total}
use Rattle.std.proofs.Math.Bool.{and-false}
use Rattle.serde_json.specs.Data.{Data}
use Rattle.olk_spec.specs.Names.{Name, lookup_name}
use Rattle.std.specs.List.{zip}
use Rattle.olk_tree.specs.Questions.{Question, every}
use Rattle.olk_tree.proofs.Merge.{After, Rising, after_after, none_after, skips}
use Rattle.olk_meaning.proofs.Rows.{Rows}

pub zip_length : {N : Type 0} (ks : List Name) (xs : List N) → length (zip ks xs) ≤ length ks
zip_length (k ∷ ks) (x ∷ xs) = let h = zip_length ks xs in omega (arith, h)
zip_length _ _ = omega arith

-- a question of what is declared at a member's name, which refuses where nothing is
module _ {N : Type 0} (f : Option N → Data → Question) (u : Bool) (closed : (x : Data) → (f None x).accepts u ≡ false) where
  abbrev all_accepted : List (Name × N) → Rows → Bool
  all_accepted es ms = (every (λ m. f (lookup_name m.0 es) m.1) ms).accepts u

  without_first : (e : Name × N) (es : List (Name × N)) (ms : Rows) → After e.0 ms → all_accepted (e ∷ es) ms ≡ all_accepted es ms
  without_first e es [] h = refl
  without_first e es (m ∷ ms) h = λ i. (f (skips m.0 e es h.0 i) m.1).accepts u && without_first e es ms h.1 i

  undeclared : (es : List (Name × N)) (m : Name × Data) (ms : Rows) → lookup_name m.0 es ≡ None → all_accepted es (m ∷ ms) ≡ false
  undeclared es m ms e = ap (λ o. (f o m.1).accepts u && all_accepted es ms) e ∙ ap (λ b. b && all_accepted es ms) (closed m.1)

  module _ (e : Name × N) (es : List (Name × N)) (r : Rising (e ∷ es)) (others : (ms : Rows) → Rising ms → length es < length ms → all_accepted es ms ≡ false) where
    by_order : (m : Name × Data) (ms : Rows) → Rising (m ∷ ms) → length (e ∷ es) < length (m ∷ ms) → (o : Ordering) → slice_cmp nat_cmp e.0 m.0 ≡ o
        → all_accepted (e ∷ es) (m ∷ ms) ≡ false
    by_order m ms s h Less q = without_first e es (m ∷ ms) (q, after_after e.0 m.0 q ms s.0) ∙ others (m ∷ ms) s (omega arith)
    by_order m ms s h Equal q =
        let same : e.0 ≡ m.0 = slice_cmp-IsAntisymmetric nat_cmp-IsAntisymmetric e.0 m.0 q in
        let first = (f _ m.1).accepts u in
        ap (λ b. first && b) (without_first e es ms (subst (λ n. After n ms) (sym same) s.0) ∙ others ms s.1 (omega arith)) ∙ and-false first
    by_order m ms s h Greater q =
        let back : slice_cmp nat_cmp m.0 e.0 ≡ Less = nat_list_cmp_total.antisymm m.0 e.0 ∙ ap ordering_reverse q in
        undeclared (e ∷ es) m ms (none_after m.0 (e ∷ es) (back, after_after m.0 e.0 back es r.0))

    with_first : (ms : Rows) → Rising ms → length (e ∷ es) < length ms → all_accepted (e ∷ es) ms ≡ false
    with_first [] s h = absurd (omega arith)
    with_first (m ∷ ms) s h = by_order m ms s h _ refl

  pub one_too_many : (es : List (Name × N)) (ms : Rows) → Rising es → Rising ms → length es < length ms → (every (λ m. f (lookup_name m.0 es) m.1) ms).accepts u ≡ false
  one_too_many [] [] r s h = absurd (omega arith)
  one_too_many [] (m ∷ ms) r s h = undeclared [] m ms refl
  one_too_many (e ∷ es) ms r s h = with_first e es r (λ ns t l. one_too_many es ns r.1 t l) ms s h
