-- A walk that counts those that are accepted, until they decide.
use Rattle.std.proofs.Common.{◌≡◌, ℕ, ◌+◌, Bool, true, false, cond, not, ◌||◌, List, [], ◌∷◌, map, refl, sym, ap, ◌∙◌, arith}
use Rattle.std.specs.Prelude.{Some, None, is_some}
use Rattle.std.proofs.lemmas.List.Sums.{sum_by-cons}
use Rattle.serde_json.specs.Data.{Data}
use Rattle.serde_json.specs.Find.{as_array}
use Rattle.serde_json.specs.View.{view, items_view}
use Rattle.serde_json.specs.declared.value.Value.{Value}
use Rattle.olk_base.specs.Lawful.{Asking}
use Rattle.olk_spec.proofs.Maps.{items_list-view}
use Rattle.olk_tree.specs.Answers.{Meanings}
use Rattle.olk_tree.specs.Questions.{Question, always, some, how_many}
use Rattle.olk_tree.proofs.Maps.{some-map, how_many-map}
use Rattle.olk_check.specs.Asks.{Asks}
use Rattle.olk_check.proofs.Asked.{join, unasked}
use Rattle.olk_documents.specs.Contains.{in_bounds, counted, contains_means}
use Rattle.olk_documents.specs.declared.contains.Contains.{Contains}
use Rattle.olk_documents.proofs.Positions.{is_array_by, listed_by, by_array}

module _ {X : Type 0} (f : X → Question) (test : ℕ → Bool) where
  count_first : (u : Bool) (x : X) (xs : List X) (b : Bool) → b ≡ (f x).accepts u → how_many f u (x ∷ xs) ≡ cond b 1 0 + how_many f u xs
  count_first u x xs b e = sum_by-cons (λ y. cond ((f y).accepts u) 1 0) x xs ∙ ap (λ r. cond r 1 0 + how_many f u xs) (sym e)

  module _ {a b : Asking} (n : ℕ) (x : X) (xs : List X) {c : Asking} {r : Bool} where
    accepted_next : Asks a b (f x) true → Asks b c (counted f test (n + 1) xs) r → Asks a c (counted f test n (x ∷ xs)) r
    accepted_next h k = join (counted f test n (x ∷ xs)) r h k
        (λ u e g. let s : (n + 1) + how_many f u xs ≡ n + (1 + how_many f u xs) = omega arith in g ∙ ap test (s ∙ ap (λ m. n + m) (sym (count_first u x xs true e)))) (λ j u e. omega arith)

    refused_next : Asks a b (f x) false → Asks b c (counted f test n xs) r → Asks a c (counted f test n (x ∷ xs)) r
    refused_next h k = join (counted f test n (x ∷ xs)) r h k
        (λ u e g. let s : n + how_many f u xs ≡ n + (0 + how_many f u xs) = omega arith in g ∙ ap test (s ∙ ap (λ m. n + m) (sym (count_first u x xs false e)))) (λ j u e. omega arith)

  -- the verdict is the same whatever is left says
  decided : (b : Asking) (n : ℕ) (xs : List X) (r : Bool) → ((more : ℕ) → r ≡ test (n + more)) → Asks b b (counted f test n xs) r
  decided b n xs r e = let w = unasked b r in record {
    only = w.only;
    asked_to = omega (arith, w.asked_to);
    unfinished_to = λ k. let x = w.unfinished_to k in omega arith;
    verdict = e (how_many f b.answer xs);
    certain = λ h l u. e (how_many f u xs);
  }

  -- those that are left, beside n that were accepted, decide about all
  pub record CountLeft (all rest : List X) (n : ℕ) (a b : Asking) : Type 0 where
    pub goes_on : (end : Asking) (result : Bool) → Asks b end (counted f test n rest) result → Asks a end (counted f test 0 all) result

module _ {X : Type 0} {f : X → Question} {test : ℕ → Bool} {all : List X} where
  module _ {rest : List X} {n : ℕ} {a b : Asking} (so_far : CountLeft f test all rest n a b) where
    pub count_accepted : {x : X} {more : List X} {c : Asking} → rest ≡ x ∷ more → Asks b c (f x) true → CountLeft f test all more (n + 1) a c
    count_accepted {x} {more} next k = record { goes_on = λ d r l. so_far.goes_on d r (rw next (accepted_next f test n x more k l)) }

    pub count_refused : {x : X} {more : List X} {c : Asking} → rest ≡ x ∷ more → Asks b c (f x) false → CountLeft f test all more n a c
    count_refused {x} {more} next k = record { goes_on = λ d r l. so_far.goes_on d r (rw next (refused_next f test n x more k l)) }

    pub count_decided : {r : Bool} → ((more : ℕ) → r ≡ test (n + more)) → Asks a b (counted f test 0 all) r
    count_decided {r} e = so_far.goes_on b r (decided f test b n rest r e)

    pub count_end : {r : Bool} → rest ≡ [] → r ≡ test n → Asks a b (counted f test 0 all) r
    count_end {r} none is = so_far.goes_on b r (rw none (let w = unasked b r in record {
      only = w.only;
      asked_to = omega (arith, w.asked_to);
      unfinished_to = λ k. let x = w.unfinished_to k in omega arith;
      verdict = is ∙ ap test (none_more n);
      certain = λ h l u. is ∙ ap test (none_more n);
    }))
      where
        none_more : (m : ℕ) → m ≡ m + 0
        none_more m = omega arith

-- over the items of an array, and over those of its value
module _ {N : Type 0} (m : Meanings N) (k : Contains N) where
  abbrev over : Bool → List Data → Question
  over b ds = record { accepts = λ u. not b || in_bounds k.bounds (how_many (λ d. m k.node d) u ds); asks = (some (λ d. m k.node d) ds).asks }

  over_view : (vs : List Value) → over true (map view vs) ≡ counted (λ x. m k.node (view x)) (in_bounds k.bounds) 0 vs
  over_view vs = λ i. record {
    accepts = λ u. in_bounds k.bounds ((how_many-map (λ d. m k.node d) (λ x. m k.node (view x)) view (λ x. refl) u vs ∙ plus u) i);
    asks = (some-map (λ d. m k.node d) (λ x. m k.node (view x)) view (λ x. refl) vs i).asks;
  }
    where
      plus : (u : Bool) → how_many (λ x. m k.node (view x)) u vs ≡ 0 + how_many (λ x. m k.node (view x)) u vs
      plus u = omega arith

  pub of_array : (v : Data) (vs : List Value) → Some (items_view vs) ≡ as_array v → counted (λ x. m k.node (view x)) (in_bounds k.bounds) 0 vs ≡ contains_means m k v
  of_array v vs e = sym (
      (λ i. over ((is_array_by v ∙ ap is_some (sym e)) i) ((by_array v ∙ ap listed_by (sym e) ∙ items_list-view vs) i))
      ∙ over_view vs)

  pub of_another : (v : Data) → None ≡ as_array v → always true ≡ contains_means m k v
  of_another v e = sym (λ i. over ((is_array_by v ∙ ap is_some (sym e)) i) ((by_array v ∙ ap listed_by (sym e)) i))
