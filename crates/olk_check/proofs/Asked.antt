-- One question after another.
use Rattle.std.proofs.Common.{◌≡◌, ◌⊎◌, inl, inr, ◌+◌, ◌-◌, ◌^◌, ◌<◌, ◌≤◌, Bool, true, false, refl, sym, ap, subst, ◌∙◌, arith}
use Rattle.olk_base.specs.Lawful.{Asking}
use Rattle.olk_tree.specs.Questions.{Tally, Question, of_asked, always}
use Rattle.olk_check.specs.Asks.{OnlyAsks, IsAnswer, IsCertain, Asks}

pub only_same : (a : Asking) → OnlyAsks a a
only_same a = record { answer = refl; compiled = refl; leaves = refl; made = refl; asked = omega arith; unfinished = omega arith }

pub only_then : {a b c : Asking} → OnlyAsks a b → OnlyAsks b c → OnlyAsks a c
only_then h k = record {
  answer = k.answer ∙ h.answer;
  compiled = k.compiled ∙ h.compiled;
  leaves = k.leaves ∙ h.leaves;
  made = k.made ∙ h.made;
  asked = let e = h.asked in let f = k.asked in omega arith;
  unfinished = let e = h.unfinished in let f = k.unfinished in omega arith;
}

-- the context's own answer
pub own_answer : {a b : Asking} → IsAnswer a b a.answer
own_answer = record { is = inl refl }

-- with an answer with which both went so, each went so
module _ {a b c : Asking} (h : OnlyAsks a b) (k : OnlyAsks b c) {u : Bool} where
  pub answer_first : IsAnswer a c u → IsAnswer a b u
  answer_first so = record { is = by so.is }
    where
      by : (u ≡ a.answer) ⊎ ((c.meter.unfinished ≡ a.meter.unfinished) × (a.meter.unfinished < 2 ^ 64 - 1)) → (u ≡ a.answer) ⊎ ((b.meter.unfinished ≡ a.meter.unfinished) × (a.meter.unfinished < 2 ^ 64 - 1))
      by (inl e) = inl e
      by (inr e) = let same = e.0 in let x = h.unfinished in let y = k.unfinished in inr (omega arith, e.1)

  pub answer_then : IsAnswer a c u → IsAnswer b c u
  answer_then so = record { is = by so.is }
    where
      by : (u ≡ a.answer) ⊎ ((c.meter.unfinished ≡ a.meter.unfinished) × (a.meter.unfinished < 2 ^ 64 - 1)) → (u ≡ b.answer) ⊎ ((c.meter.unfinished ≡ b.meter.unfinished) × (b.meter.unfinished < 2 ^ 64 - 1))
      by (inl e) = inl (e ∙ sym h.answer)
      by (inr e) = let same = e.0 in let small = e.1 in let x = h.unfinished in let y = k.unfinished in inr (omega arith, omega arith)

-- the verdict is that of each such answer
pub verdict_of : {a b : Asking} {q : Question} {r : Bool} → Asks a b q r → {u : Bool} → IsAnswer a b u → r ≡ q.accepts u
verdict_of {a} {b} {q} {r} h {u} so = by so.is
  where
    by : (u ≡ a.answer) ⊎ ((b.meter.unfinished ≡ a.meter.unfinished) × (a.meter.unfinished < 2 ^ 64 - 1)) → r ≡ q.accepts u
    by (inl e) = h.verdict ∙ ap q.accepts (sym e)
    by (inr e) = h.certain e.0 e.1 u

-- what is so with each such answer is certain
pub certain_of : {A : Type 0} {a b : Asking} {f : Bool → A} {x : A} → ((u : Bool) → IsAnswer a b u → x ≡ f u) → IsCertain a b f
certain_of h = record { same = λ e l. sym (h true (record { is = inr (e, l) })) ∙ h false (record { is = inr (e, l) }) }

module _ {a b c : Asking} {p q : Question} {r s : Bool} where
  -- two questions, one after the other, settle a third
  pub join : (m : Question) (t : Bool) → Asks a b p r → Asks b c q s
      → ((u : Bool) → r ≡ p.accepts u → s ≡ q.accepts u → t ≡ m.accepts u)
      → ((k : Tally) (u : Bool) → r ≡ p.accepts u → p.asks k u + q.asks k u ≤ m.asks k u)
      → Asks a c m t
  join m t h k verdict asks = record {
    only = only_then h.only k.only;
    asked_to = let e = asks of_asked a.answer h.verdict in let f = ap (q.asks of_asked) h.only.answer in let x = h.asked_to in let y = k.asked_to in omega arith;
    unfinished_to = λ j. let e = asks j a.answer h.verdict in let f = ap (q.asks j) h.only.answer in let x = h.unfinished_to j in let y = k.unfinished_to j in omega arith;
    verdict = verdict a.answer h.verdict (k.verdict ∙ ap q.accepts h.only.answer);
    certain = λ e l u. let x = h.only.unfinished in let y = k.only.unfinished in verdict u (h.certain (omega arith) l u) (k.certain (omega arith) (omega arith) u);
  }

module _ {a b : Asking} {p : Question} {r : Bool} where
  -- one question settles another
  pub settles : (m : Question) (t : Bool) → Asks a b p r
      → ((u : Bool) → r ≡ p.accepts u → t ≡ m.accepts u)
      → ((k : Tally) (u : Bool) → r ≡ p.accepts u → p.asks k u ≤ m.asks k u)
      → Asks a b m t
  settles m t h verdict asks = record {
    only = h.only;
    asked_to = let e = asks of_asked a.answer h.verdict in let x = h.asked_to in omega arith;
    unfinished_to = λ k. let e = asks k a.answer h.verdict in let x = h.unfinished_to k in omega arith;
    verdict = verdict a.answer h.verdict;
    certain = λ e l u. verdict u (h.certain e l u);
  }

-- an equal question is answered alike
pub asks_as : {a b : Asking} {p q : Question} {r : Bool} → p ≡ q → Asks a b p r → Asks a b q r
asks_as {a} {b} {r = r} e h = subst (λ x. Asks a b x r) e h

-- nothing is asked
pub unasked : (a : Asking) (b : Bool) → Asks a a (always b) b
unasked a b = record { only = only_same a; asked_to = omega arith; unfinished_to = λ k. omega arith; verdict = refl; certain = λ e l u. refl }
