-- Walks over each of a list, by one or by several at once.
use Rattle.std.proofs.Common.{◌≡◌, Bool, List, [], ◌∷◌, ◌++◌, refl, sym, ap, subst, ◌∙◌, Result, Ok, Err}
use Rattle.std.proofs.Math.Bool.{and-true}
use Rattle.std.proofs.lemmas.Grind.{flat_map-append}
use Rattle.std.proofs.lemmas.List.{append_assoc, append-nil}
use Rattle.olk_base.specs.Lawful.{Asking}
use Rattle.olk_spec.specs.Faults.{Fault}
use Rattle.olk_tree.specs.Firsts.{or_else, first_of}
use Rattle.olk_tree.specs.Questions.{Question}
use Rattle.olk_tree.proofs.Questions.{every-append}
use Rattle.olk_tree.proofs.Faults.{or_around}
use Rattle.olk_check.specs.Asks.{OnlyAsks, IsAnswer}
use Rattle.olk_check.proofs.Asked.{only_same, only_then, answer_first, answer_then}
use Rattle.olk_errors.specs.Found.{Outcome}
use Rattle.olk_errors.specs.Outcomes.{of_each}
use Rattle.olk_errors.specs.Sinks.{GoesOn, Ends, Walks}
use Rattle.olk_errors.specs.declared.sink.ErrorSink.{ErrorSink}
use Rattle.olk_errors.specs.declared.sink.Stop.{Stop}
use Rattle.olk_errors.proofs.Sinks.{after, goes_nowhere, goes_after, goes_same, stopped_same, stopped_after, stopped_before, walks_same}

-- ---- what a turn of a loop comes to: the loop goes on, or it is left

abbrev pub Turns : {T : Type 0} → Result T Stop → Type 0 → Type 0 → Type 0
Turns (Ok y) On Left = On
Turns (Err t) On Left = Left

pub turns_as : {T : Type 0} (r : Result T Stop) {On Then Left Gone : Type 0} → (On → Then) → (Left → Gone) → Turns r On Left → Turns r Then Gone
turns_as (Ok y) k l h = k h
turns_as (Err t) k l h = l h

-- ---- outcomes

pub or_else_nothing : (fs : List Fault) → or_else fs [] ≡ fs
or_else_nothing [] = refl
or_else_nothing (f ∷ fs) = refl

first_of-both : {X : Type 0} (s : X → List Fault) (xs ys : List X) → first_of s (xs ++ ys) ≡ or_else (first_of s xs) (first_of s ys)
first_of-both s [] ys = refl
first_of-both s (x ∷ xs) ys = ap (or_else (s x)) (first_of-both s xs ys) ∙ sym (or_around (s x) (first_of s xs) (first_of s ys))

module _ {X : Type 0} (q : X → Question) (u : Bool) (s f : X → List Fault) where
  each_split : (xs ys : List X) → after (of_each u q s f xs) (of_each u q s f ys) ≡ of_each u q s f (xs ++ ys)
  each_split xs ys = sym (λ i. record { accepts = (every-append q xs ys i).accepts u; first = first_of-both s xs ys i; all = flat_map-append f xs ys i })

  abbrev pub of_one : X → Outcome
  of_one x = record { accepts = (q x).accepts u; first = s x; all = f x }

  pub each_one : (x : X) → of_one x ≡ of_each u q s f (x ∷ [])
  each_one x = λ i. record { accepts = sym (and-true ((q x).accepts u)) i; first = sym (or_else_nothing (s x)) i; all = sym (append-nil (f x)) i }

  -- some of all are done, and the rest is not
  pub record Walked (all rest : List X) (old new : ErrorSink) : Type 0 where
    pub done : List X
    pub split : done ++ rest ≡ all
    pub on : GoesOn old new (of_each u q s f done)

module _ {X : Type 0} {q : X → Question} {u : Bool} {s f : X → List Fault} {all : List X} where
  pub walked_start : {k : ErrorSink} → Walked q u s f all all k k
  walked_start {k} = record { done = []; split = refl; on = goes_nowhere k }

  module _ {rest : List X} {old new : ErrorSink} (loop : Walked q u s f all rest old new) where
    pub walked_turn : (xs more : List X) → rest ≡ xs ++ more → {newer : ErrorSink} {T : Type 0} {r : Result T Stop} → Ends r new newer (of_each u q s f xs)
        → Turns r (Walked q u s f all more old newer) (Ends r old newer (of_each u q s f all))
    walked_turn xs more next {newer} {T} {r} = turn r
      where
        whole : (loop.done ++ xs) ++ more ≡ all
        whole = append_assoc loop.done xs more ∙ ap (λ l. loop.done ++ l) (sym next) ∙ loop.split

        turn : (r : Result T Stop) → Ends r new newer (of_each u q s f xs) → Turns r (Walked q u s f all more old newer) (Ends r old newer (of_each u q s f all))
        turn (Ok y) h = record { done = loop.done ++ xs; split = whole; on = goes_same (each_split q u s f loop.done xs) (goes_after loop.on h.so) }
        turn (Err t) h = record {
          so = stopped_same (each_split q u s f (loop.done ++ xs) more ∙ ap (of_each u q s f) whole)
              (stopped_before (of_each u q s f more) (stopped_same (each_split q u s f loop.done xs) (stopped_after loop.on h.so)));
        }

    pub walked_end : rest ≡ [] → GoesOn old new (of_each u q s f all)
    walked_end none = goes_same (ap (of_each u q s f) (sym (append-nil loop.done) ∙ ap (λ l. loop.done ++ l) (sym none) ∙ loop.split)) loop.on

-- ---- with each answer with which all goes as it went; a and b are the context at the start and now

turns_each : {T : Type 0} (r : Result T Stop) (So On Left : Bool → Type 0) → ((u : Bool) → So u → Turns r (On u) (Left u)) → Turns r ((u : Bool) → So u → On u) ((u : Bool) → So u → Left u)
turns_each (Ok y) So On Left h = h
turns_each (Err t) So On Left h = h

pub record WalkingEach {X : Type 0} (q : X → Question) (s f : Bool → X → List Fault) (all rest : Bool → List X) (old new : ErrorSink) (a b : Asking) : Type 0 where
  pub so_far : (u : Bool) → IsAnswer a b u → Walked q u (s u) (f u) (all u) (rest u) old new
  pub only : OnlyAsks a b

abbrev pub Walking : {X : Type 0} → (X → Question) → (Bool → X → List Fault) → (Bool → X → List Fault) → List X → List X → ErrorSink → ErrorSink → Asking → Asking → Type 0
Walking q s f all rest old new a b = WalkingEach q s f (λ u. all) (λ u. rest) old new a b

module _ {X : Type 0} {q : X → Question} {s f : Bool → X → List Fault} {a : Asking} where
  pub each_start : {all : Bool → List X} {k : ErrorSink} → WalkingEach q s f all all k k a a
  each_start = record { so_far = λ u so. walked_start; only = only_same a }

  module _ {all rest : Bool → List X} {old new : ErrorSink} {b : Asking} (loop : WalkingEach q s f all rest old new a b) where
    pub several_turn : (xs more : Bool → List X) {newer : ErrorSink} {c : Asking} {T : Type 0} {r : Result T Stop} → ((u : Bool) → IsAnswer b c u → rest u ≡ xs u ++ more u)
        → Walks r new newer b c (λ u. of_each u q (s u) (f u) (xs u))
        → Turns r (WalkingEach q s f all more old newer a c) (Walks r old newer a c (λ u. of_each u q (s u) (f u) (all u)))
    several_turn xs more {newer} {c} {r = r} next h = turns_as r (λ so. record { so_far = so; only = only_then loop.only h.only }) (λ ends. record { ends = ends; only = only_then loop.only h.only })
        (turns_each r (IsAnswer a c) (λ u. Walked q u (s u) (f u) (all u) (more u) old newer) (λ u. Ends r old newer (of_each u q (s u) (f u) (all u))) (λ u so. let then = answer_then loop.only h.only so in
        walked_turn (loop.so_far u (answer_first loop.only h.only so)) (xs u) (more u) (next u then) (h.ends u then)))

    pub each_end : {T : Type 0} {y : T} → ((u : Bool) → IsAnswer a b u → rest u ≡ []) → Walks (Ok y) old new a b (λ u. of_each u q (s u) (f u) (all u))
    each_end none = record { ends = λ u so. record { so = walked_end (loop.so_far u so) (none u so) }; only = loop.only }

module _ {X : Type 0} {q : X → Question} {s f : Bool → X → List Fault} {all : List X} {a : Asking} where
  pub walking_start : {k : ErrorSink} → Walking q s f all all k k a a
  walking_start = each_start

  pub walking_from : {rest : List X} {k : ErrorSink} → rest ≡ all → Walking q s f all rest k k a a
  walking_from {k = k} whole = subst (λ l. Walking q s f all l k k a a) (sym whole) walking_start

  module _ {rest : List X} {old new : ErrorSink} {b : Asking} (loop : Walking q s f all rest old new a b) where
    pub walking_turn : {x : X} {more : List X} {newer : ErrorSink} {c : Asking} {T : Type 0} {r : Result T Stop} → rest ≡ x ∷ more → Walks r new newer b c (λ u. of_one q u (s u) (f u) x)
        → Turns r (Walking q s f all more old newer a c) (Walks r old newer a c (λ u. of_each u q (s u) (f u) all))
    walking_turn {x} {more} next h = several_turn loop (λ u. x ∷ []) (λ u. more) (λ u so. next) (walks_same (λ u so. each_one q u (s u) (f u) x) h)

    pub walking_end : {T : Type 0} {y : T} → rest ≡ [] → Walks (Ok y) old new a b (λ u. of_each u q (s u) (f u) all)
    walking_end none = each_end loop (λ u so. none)

-- the last turn
pub last_turn : {X : Type 0} (q : X → Question) (s f : Bool → X → List Fault) (all : Bool → List X) {old new : ErrorSink} {a b : Asking} {T : Type 0} (r : Result T Stop)
    → Turns r (WalkingEach q s f all (λ u. []) old new a b) (Walks r old new a b (λ u. of_each u q (s u) (f u) (all u))) → Walks r old new a b (λ u. of_each u q (s u) (f u) (all u))
last_turn q s f all (Ok y) loop = each_end loop (λ u so. refl)
last_turn q s f all (Err t) h = h
