-- What is asked of the members of an object, whose names are distinct, and of the names that it is to have.
use Rattle.std.proofs.Common.{◌≡◌, Bool, true, false, ◌&&◌, cond, sym, ap, refl, ◌∙◌, arith}
use Rattle.std.proofs.Math.Bool.{and-false}
use Rattle.serde_json.specs.Data.{Data}
use Rattle.olk_spec.specs.Names.{Name}
use Rattle.olk_spec.specs.World.{Says}
use Rattle.olk_base.specs.Lawful.{Asking}
use Rattle.olk_tree.specs.Questions.{Question, always, both}
use Rattle.olk_tree.specs.Additional.{Sides, repeats, means_in_turn, named_means, additional_means}
use Rattle.olk_check.specs.Asks.{Asks}
use Rattle.olk_check.proofs.Asked.{settles, unasked}

module _ {R N : Type 0} (answers : R → Name → Says) (costs : R → Bool) (m : N → Data → Question) (S : Sides R N) (v : Data) where
  -- where no name is repeated, it is asked member by member
  pub each_is_all : repeats v ≡ false → means_in_turn answers costs m S v ≡ additional_means answers costs m S v
  each_is_all distinct = ap (λ b. cond b (named_means answers costs m S v) (means_in_turn answers costs m S v)) (sym distinct)

and_true : (x : Bool) → x ≡ (x && true)
and_true true = refl
and_true false = refl

-- a condition that holds, beside a question
pub both_where : {a b : Asking} {q : Question} {r p : Bool} → Asks a b q r → p ≡ true → Asks a b (both q (always p)) r
both_where {q = q} {r = r} {p = p} h is = settles (both q (always p)) r h (λ u e. e ∙ and_true (q.accepts u) ∙ ap (λ z. q.accepts u && z) (sym is)) (λ k u e. omega arith)

-- a condition that was found out while the question was asked
pub condition_and : {a b : Asking} {q : Question} {r p : Bool} → r ≡ p → Asks a b q true → Asks a b (both (always p) q) r
condition_and {q = q} {r = r} {p = p} is h = settles (both (always p) q) r h (λ u e. is ∙ and_true p ∙ ap (λ z. p && z) e) (λ k u e. omega arith)

pub condition_and_refused : {a b : Asking} {q : Question} (p : Bool) → Asks a b q false → Asks a b (both (always p) q) false
condition_and_refused {q = q} p h = settles (both (always p) q) false h (λ u e. sym (and-false p) ∙ ap (λ z. p && z) e) (λ k u e. omega arith)

pub and_condition : {a b : Asking} {q : Question} {r p : Bool} → r ≡ p → Asks a b q true → Asks a b (both q (always p)) r
and_condition {q = q} {r = r} {p = p} is h = settles (both q (always p)) r h (λ u e. is ∙ ap (λ z. z && p) e) (λ k u e. omega arith)

-- a condition that does not hold, beside a question that is not asked
pub refused_where : (a : Asking) (q : Question) {p : Bool} → p ≡ false → Asks a a (both q (always p)) false
refused_where a q {p = p} is = settles (both q (always p)) false (unasked a false) (λ u e. sym (and-false (q.accepts u)) ∙ ap (λ z. q.accepts u && z) (sym is)) (λ k u e. omega arith)
