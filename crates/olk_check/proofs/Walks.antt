-- Walks over lists of questions.
use Rattle.std.proofs.Common.{◌≡◌, Bool, true, false, not, cond, ◌&&◌, ◌||◌, List, [], ◌∷◌, ap, ◌∙◌, arith}
use Rattle.std.specs.Prelude.{Vec}
use Rattle.std.specs.declared.alloc.Global.{Global}
use Rattle.serde_json.specs.Data.{Data}
use Rattle.olk_base.specs.Lawful.{Asking}
use Rattle.olk_tree.specs.Bodies.{body_means}
use Rattle.olk_tree.specs.declared.node.Body.{Body}
use Rattle.olk_tree.specs.declared.node.Body.TheVariants.{Keywords}
use Rattle.olk_tree.specs.Questions.{Question, always, both, either, opposite, conditional, every, some}
use Rattle.olk_check.specs.Asks.{Asks}
use Rattle.olk_check.proofs.Asked.{join, settles, unasked}

module _ {a b c : Asking} {p q : Question} {r : Bool} where
  pub both_go_on : Asks a b p true → Asks b c q r → Asks a c (both p q) r
  both_go_on h k = join (both p q) r h k (λ u e f. f ∙ ap (λ x. x && q.accepts u) e) (λ k u e. omega arith)

  pub either_goes_on : Asks a b p false → Asks b c q r → Asks a c (either p q) r
  either_goes_on h k = join (either p q) r h k (λ u e f. f ∙ ap (λ x. x || q.accepts u) e) (λ k u e. omega arith)

module _ {a b : Asking} {p : Question} (q : Question) where
  pub both_stop : Asks a b p false → Asks a b (both p q) false
  both_stop h = settles (both p q) false h (λ u e. ap (λ x. x && q.accepts u) e) (λ k u e. omega arith)

  pub either_stops : Asks a b p true → Asks a b (either p q) true
  either_stops h = settles (either p q) true h (λ u e. ap (λ x. x || q.accepts u) e) (λ k u e. omega arith)

pub opposite_answers : {a b : Asking} {p : Question} {r : Bool} → Asks a b p r → Asks a b (opposite p) (not r)
opposite_answers {a} {b} {p} {r} h = settles (opposite p) (not r) h (λ u e. ap not e) (λ k u e. omega arith)

-- one question decides which is asked next
module _ {a b : Asking} {p : Question} where
  module _ {c : Asking} (q r : Question) {s : Bool} where
    pub accepted_then : Asks a b p true → Asks b c q s → Asks a c (conditional p q r) s
    accepted_then h k = join (conditional p q r) s h k (λ u e f. f ∙ ap (λ x. cond x (q.accepts u) (r.accepts u)) e) (λ k u e. let n = ap (λ x. cond x (q.asks k u) (r.asks k u)) e in omega arith)

    pub refused_then : Asks a b p false → Asks b c r s → Asks a c (conditional p q r) s
    refused_then h k = join (conditional p q r) s h k (λ u e f. f ∙ ap (λ x. cond x (q.accepts u) (r.accepts u)) e) (λ k u e. let n = ap (λ x. cond x (q.asks k u) (r.asks k u)) e in omega arith)

  pub accepted_alone : (r : Question) → Asks a b p true → Asks a b (conditional p (always true) r) true
  accepted_alone r h = accepted_then (always true) r h (unasked b true)

  pub refused_alone : (q : Question) → Asks a b p false → Asks a b (conditional p q (always true)) true
  refused_alone q h = refused_then q (always true) h (unasked b true)

-- those that are left decide about all
pub record AllLeft {X : Type 0} (f : X → Question) (all rest : List X) (a b : Asking) : Type 0 where
  pub goes_on : (end : Asking) (result : Bool) → Asks b end (every f rest) result → Asks a end (every f all) result

pub record AnyLeft {X : Type 0} (f : X → Question) (all rest : List X) (a b : Asking) : Type 0 where
  pub goes_on : (end : Asking) (result : Bool) → Asks b end (some f rest) result → Asks a end (some f all) result

module _ {X : Type 0} {f : X → Question} {all : List X} where
  pub all_start : {a : Asking} → AllLeft f all all a a
  all_start = record { goes_on = λ c r h. h }

  pub any_start : {a : Asking} → AnyLeft f all all a a
  any_start = record { goes_on = λ c r h. h }

  module _ {rest : List X} {a b : Asking} where
    pub all_end : AllLeft f all rest a b → rest ≡ [] → Asks a b (every f all) true
    all_end h none = h.goes_on b true (rw none (unasked b true))

    pub any_end : AnyLeft f all rest a b → rest ≡ [] → Asks a b (some f all) false
    any_end h none = h.goes_on b false (rw none (unasked b false))

    module _ {x : X} {more : List X} {c : Asking} where
      pub all_go_on : AllLeft f all rest a b → rest ≡ x ∷ more → Asks b c (f x) true → AllLeft f all more a c
      all_go_on h next k = record { goes_on = λ d r l. h.goes_on d r (rw next (both_go_on k l)) }

      pub all_stop : AllLeft f all rest a b → rest ≡ x ∷ more → Asks b c (f x) false → Asks a c (every f all) false
      all_stop h next k = h.goes_on c false (rw next (both_stop (every f more) k))

      pub any_go_on : AnyLeft f all rest a b → rest ≡ x ∷ more → Asks b c (f x) false → AnyLeft f all more a c
      any_go_on h next k = record { goes_on = λ d r l. h.goes_on d r (rw next (either_goes_on k l)) }

      pub any_stop : AnyLeft f all rest a b → rest ≡ x ∷ more → Asks b c (f x) true → Asks a c (some f all) true
      any_stop h next k = h.goes_on c true (rw next (either_stops (some f more) k))

pub ruleset list_walks = (all_start, any_start)

pub ruleset conditional_answers = (accepted_then, refused_then, accepted_alone, refused_alone)

-- the keywords of a body, as what reads them hands them over
pub keywords_asked : {W : Type 0} (q : W → Data → Question) (v : Data) {body : Body W} {ks : Vec W Global} {l : List W} {a b : Asking} {r : Bool} → body ≡ Keywords ks
    → l ≡ ks.items → Asks a b (every (λ k. q k v) l) r → Asks a b (body_means q body v) r
keywords_asked q v is same h = rw (is, ← same) h
