-- Walks that put some questions off.
use Rattle.std.proofs.Common.{◌≡◌, ◌+◌, Bool, true, false, ◌&&◌, List, [], ◌∷◌, ◌++◌, refl, sym, ap, ◌∙◌, arith}
use Rattle.std.proofs.Math.Bool.{and_comm, and-false}
use Rattle.olk_base.specs.Lawful.{Asking}
use Rattle.olk_tree.specs.Questions.{Tally, Question, always, both, every}
use Rattle.olk_check.specs.Asks.{Asks}
use Rattle.olk_check.proofs.Asked.{settles, unasked}
use Rattle.olk_check.proofs.Together.{both_where}
use Rattle.olk_check.proofs.Walks.{both_go_on, both_stop}

-- the order of questions does not matter
and_around : (x y z : Bool) → (x && (y && z)) ≡ ((x && y) && z)
and_around true y z = refl
and_around false y z = refl

module _ {X : Type 0} (h : X → Question) where
  pushed_accepts : (x : X) (xs : List X) (u : Bool) → (every h (xs ++ x ∷ [])).accepts u ≡ ((h x).accepts u && (every h xs).accepts u)
  pushed_accepts x [] u = refl
  pushed_accepts x (y ∷ ys) u = ap (λ z. (h y).accepts u && z) (pushed_accepts x ys u) ∙ and_around ((h y).accepts u) ((h x).accepts u) ((every h ys).accepts u)
      ∙ ap (λ z. z && (every h ys).accepts u) (and_comm ((h y).accepts u) ((h x).accepts u)) ∙ sym (and_around ((h x).accepts u) ((h y).accepts u) ((every h ys).accepts u))

  pushed_asks : (x : X) (xs : List X) (k : Tally) (u : Bool) → (every h (xs ++ x ∷ [])).asks k u ≡ (h x).asks k u + (every h xs).asks k u
  pushed_asks x [] k u = refl
  pushed_asks x (y ∷ ys) k u = let e = pushed_asks x ys k u in omega arith

-- what is left, and what was put off, decide about all, beside any other question
pub record LeftAndHeld {Y X : Type 0} (f : Y → Question) (h : X → Question) (all rest : List Y) (held : List X) (a b : Asking) : Type 0 where
  pub goes_on : (t : Question) (end : Asking) (result : Bool) → Asks b end (both (both (every f rest) (every h held)) t) result → Asks a end (both (every f all) t) result

module _ {Y X : Type 0} {f : Y → Question} {h : X → Question} {all : List Y} where
  module _ {left : List Y} {held : List X} {a b : Asking} (w : LeftAndHeld f h all left held a b) where
    -- the other question decides alone, or what was put off does
    pub held_refused : {r p : Bool} → r ≡ p → r ≡ false → Asks a b (both (every f all) (always p)) r
    held_refused {r} {p} same not = w.goes_on (always p) b r (settles (both (both (every f left) (every h held)) (always p)) r (unasked b r)
        (λ u e. not ∙ sym (and-false ((every f left).accepts u && (every h held).accepts u)) ∙ ap (λ z. ((every f left).accepts u && (every h held).accepts u) && z) (sym not ∙ same)) (λ k u e. omega arith))

    pub held_end : {xs : List X} {c : Asking} {r p : Bool} → left ≡ [] → xs ≡ held → Asks b c (every h xs) r → p ≡ true → Asks a c (both (every f all) (always p)) r
    held_end {xs} {c} {r} {p} none same l is = w.goes_on (always p) c r (rw none
        (both_where (settles (both (always true) (every h held)) r (rw same at l) (λ u e. e) (λ k u e. omega arith)) is))

    module _ {y : Y} {rest : List Y} (next : left ≡ y ∷ rest) where
      at_next : (t : Question) {c : Asking} {r : Bool} → Asks b c (both (both (every f (y ∷ rest)) (every h held)) t) r → Asks a c (both (every f all) t) r
      at_next t {c} {r} l = w.goes_on t c r (rw next l)

      -- a question is put off
      pub held_more : {now : List X} (x : X) → h x ≡ f y → now ≡ held ++ x ∷ [] → LeftAndHeld f h all rest now a b
      held_more {now} x same is = record {
        goes_on = λ t c r l. at_next t (settles (both (both (every f (y ∷ rest)) (every h held)) t) r (rw is at l)
            (λ u e. e ∙ ap (λ z. z && t.accepts u) (ap (λ z. R u && z) (pushed_accepts h x held u) ∙ and_around (R u) ((h x).accepts u) (H u)
            ∙ ap (λ z. z && H u) (and_comm (R u) ((h x).accepts u)) ∙ ap (λ q. (q.accepts u && R u) && H u) same))
            (λ k u e. let p = pushed_asks h x held k u in let s = ap (λ q. q.asks k u) same in omega arith));
      }
        where
          R : Bool → Bool
          R u = (every f rest).accepts u

          H : Bool → Bool
          H u = (every h held).accepts u

      module _ {c : Asking} where
        pub held_go_on : Asks b c (f y) true → LeftAndHeld f h all rest held a c
        held_go_on q = record {
          goes_on = λ t d r l. at_next t (settles (both (both (every f (y ∷ rest)) (every h held)) t) r (both_go_on q l)
              (λ u e. e ∙ and_around ((f y).accepts u) ((every f rest).accepts u && (every h held).accepts u) (t.accepts u) ∙ ap (λ z. z && t.accepts u)
              (and_around ((f y).accepts u) ((every f rest).accepts u) ((every h held).accepts u)))
              (λ k u e. omega arith));
        }

        pub held_stop : (t : Question) → Asks b c (f y) false → Asks a c (both (every f all) t) false
        held_stop t q = at_next t (both_stop t (both_stop (every h held) (both_stop (every f rest) q)))
