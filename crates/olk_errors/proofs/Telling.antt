-- One error for each of a list, in a sink that wants all.
use Rattle.std.proofs.Common.{◌≡◌, true, false, List, [], ◌∷◌, length, map, arith, refl, sym, ap, subst, ◌∙◌, Ok, Err}
use Rattle.std.specs.List.{flat_map}
use Rattle.olk_spec.specs.Faults.{Fault, ◌∼◌}
use Rattle.olk_tree.specs.Questions.{Question, always}
use Rattle.olk_errors.specs.Found.{Outcome, IsErrorOf}
use Rattle.olk_errors.specs.Sinks.{wants_one, GoesOn, Stopped, Ends, Takes}
use Rattle.olk_errors.specs.declared.sink.ErrorSink.{ErrorSink}
use Rattle.olk_errors.specs.declared.sink.Stop.{Stop}
use Rattle.olk_errors.proofs.Appending.{appends_like}
use Rattle.olk_errors.proofs.Sinks.{goes_by, goes_all, stopped_all}
use Rattle.olk_errors.proofs.Loops.{Walked, walked_start, walked_turn, walked_end}

-- ---- by what the sink wants

-- where all are wanted, what all are up to order is what matters
pub goes_alike : {old new : ErrorSink} {o : Outcome} (p : Outcome) → wants_one old ≡ false → o.all ∼ p.all → GoesOn old new o → GoesOn old new p
goes_alike p all alike = goes_by p (λ one. absurd (cc)) (λ w. appends_like alike)

-- ---- each of a list

pub nothing_left : {X : Type 0} (xs : List X) → length xs ≡ 0 → xs ≡ []
nothing_left [] h = refl
nothing_left (x ∷ xs) h = absurd (omega arith)

pub each_told : {X : Type 0} (h : X → Fault) (xs : List X) → flat_map (λ x. h x ∷ []) xs ≡ map h xs
each_told h [] = refl
each_told h (x ∷ xs) = ap (λ l. h x ∷ l) (each_told h xs)

module _ {X : Type 0} (h : X → Fault) where
  abbrev pub told : X → List Fault
  told x = h x ∷ []

  abbrev pub refused : X → Question
  refused x = always false

  pub record Telling (all rest : List X) (old new : ErrorSink) : Type 0 where
    pub so_far : Walked refused true told told all rest old new
    pub before : wants_one old ≡ false
    pub now : wants_one new ≡ false

module _ {X : Type 0} {h : X → Fault} {all : List X} where
  pub telling_start : {k : ErrorSink} → wants_one k ≡ false → Telling h all all k k
  telling_start wants = record { so_far = walked_start; before = wants; now = wants }

  module _ {rest : List X} {old new : ErrorSink} (loop : Telling h all rest old new) where
    module _ {x : X} {more : List X} (next : rest ≡ x ∷ more) {newer : ErrorSink} {T : Type 0} where
      pub telling_more : {y : T} → Takes (Ok y) new newer (h x) → Telling h all more old newer
      telling_more {y} takes = record { so_far = walked_turn loop.so_far (x ∷ []) more next {T = T} {r = Ok y} (record { so = takes.so }); before = loop.before; now = takes.so.same ∙ loop.now }

      pub telling_stopped : {t : Stop} {o : Outcome} → Takes {T = T} (Err t) new newer (h x) → Stopped old newer (IsErrorOf o)
      telling_stopped {t} takes = stopped_all loop.before (walked_turn loop.so_far (x ∷ []) more next {T = T} {r = Err t} (record { so = stopped_all loop.now takes.so })).so

    module _ {T : Type 0} {y : T} {o : Outcome} where
      pub telling_end : map h all ≡ o.all → rest ≡ [] → Ends (Ok y) old new o
      telling_end same none = record { so = goes_all _ loop.before (each_told h all ∙ same) (walked_end loop.so_far none) }

      -- the same up to order
      pub telling_like : map h all ∼ o.all → rest ≡ [] → Ends (Ok y) old new o
      telling_like like none = record { so = goes_alike _ loop.before (subst (λ l. l ∼ o.all) (sym (each_told h all)) like) (walked_end loop.so_far none) }
