-- What asking a branch comes to that is asked in one of two cases.
use Rattle.std.proofs.Common.{Bool, true, false, cond, [], sym, ap, Result, Ok}
use Rattle.olk_base.specs.Lawful.{Asking}
use Rattle.olk_tree.specs.Questions.{Question}
use Rattle.olk_check.specs.Asks.{Asks}
use Rattle.olk_check.proofs.Asked.{answer_first, verdict_of}
use Rattle.olk_errors.specs.Found.{Outcome}
use Rattle.olk_errors.specs.Sinks.{Walks}
use Rattle.olk_errors.specs.declared.sink.ErrorSink.{ErrorSink}
use Rattle.olk_errors.specs.declared.sink.Stop.{Stop}
use Rattle.olk_errors.proofs.Sinks.{walks_past, walks_same, walks_asked}

abbrev pub if_so : Outcome → Bool → Outcome
if_so o b = record { accepts = cond b o.accepts true; first = cond b o.first []; all = cond b o.all [] }

abbrev pub if_not_so : Outcome → Bool → Outcome
if_not_so o b = record { accepts = cond b true o.accepts; first = cond b [] o.first; all = cond b [] o.all }

module _ (o : Bool → Outcome) {T : Type 0} {a b : Asking} {q : Question} where
  module _ {y : T} {sink : ErrorSink} where
    pub past_then : Asks a b q false → Walks (Ok y) sink sink a b (λ u. if_so (o u) (q.accepts u))
    past_then h = walks_past h.only (λ u so. ap (if_so (o u)) (sym (verdict_of h so)))

    pub past_else : Asks a b q true → Walks (Ok y) sink sink a b (λ u. if_not_so (o u) (q.accepts u))
    past_else h = walks_past h.only (λ u so. ap (if_not_so (o u)) (sym (verdict_of h so)))

  module _ {r : Result T Stop} {old new : ErrorSink} {c : Asking} where
    pub walks_then : Asks a b q true → Walks r old new b c o → Walks r old new a c (λ u. if_so (o u) (q.accepts u))
    walks_then h k = walks_same (λ u so. ap (if_so (o u)) (verdict_of h (answer_first h.only k.only so))) (walks_asked o h.only k)

    pub walks_else : Asks a b q false → Walks r old new b c o → Walks r old new a c (λ u. if_not_so (o u) (q.accepts u))
    walks_else h k = walks_same (λ u so. ap (if_not_so (o u)) (verdict_of h (answer_first h.only k.only so))) (walks_asked o h.only k)
