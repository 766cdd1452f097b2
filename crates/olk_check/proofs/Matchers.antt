-- A matcher that is asked of a name answers a question.
use Rattle.std.proofs.Common.{◌≡◌, ◌≤◌, Bool, true, false, cond, refl, arith}
use Rattle.olk_spec.specs.World.{Says, matched, unmatched, unfinished, reads_as}
use Rattle.olk_base.specs.Count.{raised}
use Rattle.olk_base.specs.Lawful.{Asking, asked_of}
use Rattle.olk_tree.specs.Questions.{Tally, of_asked, of_unfinished, said_to}
use Rattle.olk_check.specs.Asks.{OnlyAsks, Asks}

module _ (a : Asking) where
  only_matches : (costs : Bool) (s : Says) → OnlyAsks a (asked_of costs s a)
  only_matches true matched = record { answer = refl; compiled = refl; leaves = refl; made = refl; asked = omega arith; unfinished = omega arith }
  only_matches false matched = record { answer = refl; compiled = refl; leaves = refl; made = refl; asked = omega arith; unfinished = omega arith }
  only_matches _ _ = record { answer = refl; compiled = refl; leaves = refl; made = refl; asked = omega arith; unfinished = omega arith }

  counted_once : (costs : Bool) (k : Tally) → raised a.meter.unfinished 1 ≤ raised a.meter.unfinished ((said_to costs unfinished).asks k a.answer)
  counted_once true of_asked = omega arith
  counted_once false of_asked = omega arith
  counted_once costs of_unfinished = omega arith

  asks_matcher : (costs : Bool) (s : Says) → Asks a (asked_of costs s a) (said_to costs s) (reads_as a.answer s)
  asks_matcher true unfinished = record { only = only_matches true unfinished; asked_to = omega arith; unfinished_to = counted_once true; verdict = refl; certain = λ e l u. absurd (omega arith) }
  asks_matcher false unfinished = record { only = only_matches false unfinished; asked_to = omega arith; unfinished_to = counted_once false; verdict = refl; certain = λ e l u. absurd (omega arith) }
  asks_matcher costs s = record { only = only_matches costs s; asked_to = omega arith; unfinished_to = λ k. omega arith; verdict = refl; certain = λ e l u. refl }

-- the answer of a call, with what it leaves of the context
pub match_answers : (costs : Bool) (s : Says) (a b : Asking) (r : Bool) → r ≡ reads_as a.answer s → b ≡ asked_of costs s a → Asks a b (said_to costs s) r
match_answers costs s a b r answer counts = rw (counts, answer) (asks_matcher a costs s)

-- a test answers at once, and is not counted
pub test_answers : (a : Asking) (b r : Bool) → r ≡ b → Asks a a (said_to false (cond b matched unmatched)) r
test_answers a true r is = match_answers false matched a a r is refl
test_answers a false r is = match_answers false unmatched a a r is refl
