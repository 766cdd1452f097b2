-- One walk after another, whatever the sink wants.
use Rattle.std.proofs.Common.{◌≡◌, inl, inr, ℕ, Bool, true, false, true≢false, ◌&&◌, List, [], ◌∷◌, ◌++◌, length, take, Vec, Option, Some, refl, sym, ap, subst, ◌∙◌, arith, Result, Ok, Err}
use Rattle.std.specs.List.{Contains}
use Rattle.std.specs.Result.{IsErr}
use Rattle.std.proofs.lemmas.List.{append_assoc, append-nil}
use Rattle.std.proofs.lemmas.List.Elements.{Contains-append_left, Contains-append_right}
use Rattle.std.proofs.Math.Seq.{take-append_seam}
use Rattle.std.specs.declared.alloc.Global.{Global}
use Rattle.olk_base.specs.Lawful.{Asking}
use Rattle.olk_spec.specs.Faults.{Fault}
use Rattle.olk_reports.specs.Errors.{fault_of}
use Rattle.olk_reports.specs.declared.error.ValidationError.{ValidationError}
use Rattle.olk_tree.specs.Firsts.{or_else}
use Rattle.olk_check.specs.Asks.{OnlyAsks, IsAnswer}
use Rattle.olk_check.proofs.Asked.{only_then, answer_first, answer_then}
use Rattle.olk_errors.specs.Found.{Appends, Outcome, Passes, IsErrorOf}
use Rattle.olk_errors.specs.Sinks.{is_first, errors_in, wants_one, held, Took, GoesOn, IsLonger, Kept, Keeps, Stopped, Ended, EndsBy, Ends, one_error, Takes, Walks}
use Rattle.olk_errors.specs.declared.sink.ErrorSink.{ErrorSink}
use Rattle.olk_errors.specs.declared.sink.Held.TheVariants.{First, All}
use Rattle.olk_errors.specs.declared.sink.Stop.{Stop}
use Rattle.olk_errors.proofs.Appending.{appends_nothing, appends_more, appends_one}

-- one asking after the other
abbrev pub after : Outcome → Outcome → Outcome
after o p = record { accepts = o.accepts && p.accepts; first = or_else o.first p.first; all = o.all ++ p.all }

-- nothing is asked
abbrev pub unasked : Outcome
unasked = record { accepts = true; first = []; all = [] }

pub contains_none : (f : Fault) → Contains [] f → ⊥
contains_none f c = absurd (omega arith)

pub contains_first : (fs gs : List Fault) (f : Fault) → Contains fs f → Contains (or_else fs gs) f
contains_first [] gs f c = absurd (contains_none f c)
contains_first (g ∷ fs) gs f c = c

pub pass_both : {o p : Outcome} → Passes o → Passes p → Passes (after o p)
pass_both {o} {p} h k = record { verdict = ap (λ b. b && p.accepts) h.verdict ∙ k.verdict; nothing = ap (λ l. or_else l p.first) h.nothing ∙ k.nothing }

-- an error of the first is one of both
pub error_before : {o : Outcome} (p : Outcome) {f : Fault} → IsErrorOf o f → IsErrorOf (after o p) f
error_before {o} p e = record {
  verdict = ap (λ b. b && p.accepts) e.verdict;
  of_first = record { one = e.of_first.one; among = contains_first o.first p.first e.of_first.one e.of_first.among; like = e.of_first.like };
  of_all = record { whole = e.of_all.whole; among = Contains-append_left o.all p.all e.of_all.whole e.of_all.among; like = e.of_all.like };
}

-- and so is one of the second, where the first passes
pub error_after : {o p : Outcome} {f : Fault} → Passes o → IsErrorOf p f → IsErrorOf (after o p) f
error_after {o} {p} {f} passes e = record {
  verdict = ap (λ b. b && p.accepts) passes.verdict ∙ e.verdict;
  of_first = record { one = e.of_first.one; among = subst (λ l. Contains (or_else l p.first) e.of_first.one) (sym passes.nothing) e.of_first.among; like = e.of_first.like };
  of_all = record { whole = e.of_all.whole; among = Contains-append_right o.all p.all e.of_all.whole e.of_all.among; like = e.of_all.like };
}

-- ---- where a walk went on

-- what was taken, and what was kept, by whether one error is wanted
abbrev Taking : ErrorSink → ErrorSink → Outcome → Bool → Type 0
Taking old new o b = Took b (held old) (held new) o

abbrev Keeping : ErrorSink → ErrorSink → Bool → Type 0
Keeping old new b = Kept b (held old) (held new)

pub goes_nowhere : (s : ErrorSink) → GoesOn s s unasked
goes_nowhere s = record {
  same = refl;
  took = elim (wants_one s) as (Taking s s unasked) [ false ↦ appends_nothing (held s) | true ↦ (record { verdict = refl; nothing = refl }, refl) ];
}

-- what comes to nothing
pub goes_past : (s : ErrorSink) {o : Outcome} → o ≡ unasked → GoesOn s s o
goes_past s nothing = subst (GoesOn s s) (sym nothing) (goes_nowhere s)

module _ {old mid new : ErrorSink} where
  pub goes_after : {o p : Outcome} → GoesOn old mid o → GoesOn mid new p → GoesOn old new (after o p)
  goes_after {o} {p} h k = record {
    same = k.same ∙ h.same;
    took = (elim (wants_one old) as (λ b. Taking old mid o b → Taking mid new p b → Taking old new (after o p) b) [
      | false ↦ λ a b. appends_more a b
      | true ↦ λ a b. (pass_both a.0 b.0, b.1 ∙ a.1)
    ]) h.took (subst (Taking mid new p) h.same k.took);
  }

  pub keeps_more : Keeps old mid → Keeps mid new → Keeps old new
  keeps_more h k = record {
    same = k.same ∙ h.same;
    kept = (elim (wants_one old) as (λ b. Keeping old mid b → Keeping mid new b → Keeping old new b) [
      | false ↦ λ a b. record { added = a.added ++ b.added; is = b.is ∙ ap (λ l. l ++ b.added) a.is ∙ append_assoc (held old) a.added b.added }
      | true ↦ λ a b. b ∙ a
    ]) h.kept (subst (Keeping mid new) h.same k.kept);
  }

module _ {old new : ErrorSink} {o : Outcome} where
  pub goes_keeping : GoesOn old new o → Keeps old new
  goes_keeping h = record {
    same = h.same;
    kept = (elim (wants_one old) as (λ b. Taking old new o b → Keeping old new b) [ false ↦ λ k. record { added = k.added; is = k.is } | true ↦ λ k. k.1 ]) h.took;
  }

  pub goes_same : {p : Outcome} → o ≡ p → GoesOn old new o → GoesOn old new p
  goes_same = subst (GoesOn old new)

  -- one error is wanted, and there is none
  pub goes_passing : wants_one old ≡ true → GoesOn old new o → Passes o
  goes_passing one h = (subst (Taking old new o) one h.took).0

  -- all are wanted
  pub goes_appending : wants_one old ≡ false → GoesOn old new o → Appends (held old) (held new) o.all
  goes_appending all h = subst (Taking old new o) all h.took

  -- where one is wanted, that it passes is what matters, and where all are, what was appended
  pub goes_by : (p : Outcome) → (wants_one old ≡ true → Passes o → Passes p) → (wants_one old ≡ false → Appends (held old) (held new) o.all → Appends (held old) (held new) p.all)
      → GoesOn old new o → GoesOn old new p
  goes_by p one all h = record { same = h.same; took = took (wants_one old) refl h.took }
    where
      took : (b : Bool) → wants_one old ≡ b → Taking old new o b → Taking old new p b
      took false is k = all is k
      took true is k = (one is k.0, k.1)

  pub goes_either : (p : Outcome) → (wants_one old ≡ true → Passes o → Passes p) → o.all ≡ p.all → GoesOn old new o → GoesOn old new p
  goes_either p one all = goes_by p one (λ w. subst (Appends (held old) (held new)) all)

  pub goes_all : (p : Outcome) → wants_one old ≡ false → o.all ≡ p.all → GoesOn old new o → GoesOn old new p
  goes_all p all = goes_either p (λ one. absurd (cc))

  pub goes_first : (p : Outcome) → wants_one old ≡ true → (Passes o → Passes p) → GoesOn old new o → GoesOn old new p
  goes_first p one k = goes_by p (λ w. k) (λ all. absurd (cc))

-- one error of its own
pub goes_own : {old new : ErrorSink} (o : Outcome) {f : Fault} → (Appends (held old) (held new) (f ∷ []) → Appends (held old) (held new) o.all) → GoesOn old new (one_error f) → GoesOn old new o
goes_own o k = goes_by o (λ one h. absurd (true≢false (sym h.verdict))) (λ all. k)

-- ---- stopped

pub keeps_same : (s : ErrorSink) → Keeps s s
keeps_same s = goes_keeping (goes_nowhere s)

module _ {old new : ErrorSink} {So Then : Fault → Type 0} where
  -- what is so of the error is so of one that is wanted
  pub stopped_where : (wants_one old ≡ true → (f : Fault) → So f → Then f) → Stopped old new So → Stopped old new Then
  stopped_where k (inl h) = inl (record { one = h.one; same = h.same; error = h.error; is = h.is; found = k h.one (fault_of h.error) h.found })
  stopped_where k (inr h) = inr h

  -- where all are wanted, no error stops the walk
  pub stopped_all : wants_one old ≡ false → Stopped old new So → Stopped old new Then
  stopped_all all = stopped_where (λ one. absurd (cc))

module _ {old new : ErrorSink} {o : Outcome} where
  pub stopped_same : {p : Outcome} → o ≡ p → Stopped old new (IsErrorOf o) → Stopped old new (IsErrorOf p)
  stopped_same = subst (λ q. Stopped old new (IsErrorOf q))

  pub stopped_before : (p : Outcome) → Stopped old new (IsErrorOf o) → Stopped old new (IsErrorOf (after o p))
  stopped_before p = stopped_where (λ w f. error_before p)

pub stopped_after : {old mid new : ErrorSink} {o p : Outcome} → GoesOn old mid o → Stopped mid new (IsErrorOf p) → Stopped old new (IsErrorOf (after o p))
stopped_after h (inl k) = let one = sym h.same ∙ k.one in
    inl (record { one = one; same = k.same ∙ h.same; error = k.error; is = k.is; found = error_after (goes_passing one h) k.found })
stopped_after h (inr k) = inr (keeps_more (goes_keeping h) k)

-- ---- by results

module _ {T : Type 0} {r : Result T Stop} where
  -- what the sink has where the walk went on, and where it was stopped
  pub ends_through : {a b c d : ErrorSink} {o p : Outcome} {So Then : Fault → Type 0} → (GoesOn a b o → GoesOn c d p) → (Stopped a b So → Stopped c d Then) → EndsBy r a b o So → EndsBy r c d p Then
  ends_through {a} {b} {c} {d} {o} {p} {So} {Then} goes stops h = record { so = (elim r as (λ q. Ended q a b o So → Ended q c d p Then) [ Ok x ↦ goes | Err s ↦ stops ]) h.so }

  -- it was stopped, and its result is that
  pub ends_left : {old new : ErrorSink} {o : Outcome} {So : Fault → Type 0} → IsErr r → Stopped old new So → EndsBy r old new o So
  ends_left {old} {new} {o} {So} h k = record { so = (elim r as (λ q. IsErr q → Ended q old new o So) [ Ok x ↦ λ e. absurd (true≢false (sym e)) | Err s ↦ λ e. k ]) h }

  -- there was no memory, and nothing was taken
  pub ends_nowhere : {s : ErrorSink} {o : Outcome} {So : Fault → Type 0} → IsErr r → EndsBy r s s o So
  ends_nowhere {s} e = ends_left e (inr (keeps_same s))

  module _ {old new : ErrorSink} {o : Outcome} where
    pub ends_same : {p : Outcome} → o ≡ p → Ends r old new o → Ends r old new p
    ends_same = subst (Ends r old new)

    -- where all are wanted, what all are is what matters
    pub ends_all : (p : Outcome) → wants_one old ≡ false → o.all ≡ p.all → Ends r old new o → Ends r old new p
    ends_all p all e = ends_through (goes_all p all e) (stopped_all all)

    -- where one is wanted, whether it passes and what the error is matter
    pub ends_first : (p : Outcome) → wants_one old ≡ true → (Passes o → Passes p) → ((f : Fault) → IsErrorOf o f → IsErrorOf p f) → Ends r old new o → Ends r old new p
    ends_first p one passes errs = ends_through (goes_first p one passes) (stopped_where (λ w. errs))

  module _ {old new : ErrorSink} {f : Fault} where
    -- a fault alone
    pub ends_one : (o : Outcome) → (Appends (held old) (held new) (f ∷ []) → Appends (held old) (held new) o.all) → (wants_one old ≡ true → IsErrorOf o f) → Takes r old new f → Ends r old new o
    ends_one o k err = ends_through (goes_own o k) (stopped_where (λ w g is. subst (IsErrorOf o) (sym is) (err w)))

    -- an error of it, where one is wanted
    pub ends_wanted : {o : Outcome} → wants_one old ≡ true → IsErrorOf o f → Takes r old new f → Ends r old new o
    ends_wanted {o} one err = ends_through (λ h. absurd (true≢false (sym (goes_passing one h).verdict))) (stopped_where (λ w g is. subst (IsErrorOf o) (sym is) err))

-- ---- of walks, with each answer with which all goes as it went

module _ {T : Type 0} {x : T} {s : ErrorSink} where
  pub ends_past : {o : Outcome} → o ≡ unasked → Ends (Ok x) s s o
  ends_past nothing = record { so = goes_past s nothing }

  pub walks_past : {a b : Asking} {o : Bool → Outcome} → OnlyAsks a b → ((u : Bool) → IsAnswer a b u → o u ≡ unasked) → Walks (Ok x) s s a b o
  walks_past only nothing = record { ends = λ u so. ends_past (nothing u so); only = only }

module _ {T : Type 0} {r : Result T Stop} where
  module _ {old new : ErrorSink} {a b : Asking} {o : Bool → Outcome} where
    pub walks_by : {p : Bool → Outcome} → ((u : Bool) → IsAnswer a b u → Ends r old new (o u) → Ends r old new (p u)) → Walks r old new a b o → Walks r old new a b p
    walks_by k h = record { ends = λ u so. k u so (h.ends u so); only = h.only }

    pub walks_same : {p : Bool → Outcome} → ((u : Bool) → IsAnswer a b u → o u ≡ p u) → Walks r old new a b o → Walks r old new a b p
    walks_same e h = record { ends = λ u so. subst (Ends r old new) (e u so) (h.ends u so); only = h.only }

    -- a walk that asks the context nothing
    pub walks_alone : OnlyAsks a b → ((u : Bool) → Ends r old new (o u)) → Walks r old new a b o
    walks_alone only h = record { ends = λ u so. h u; only = only }

    -- one that leaves by a `?`
    pub walks_left : {S : Type 0} {s : Stop} → IsErr r → Walks {T = S} (Err s) old new a b o → Walks r old new a b o
    walks_left e h = record { ends = λ u so. ends_left e (h.ends u so).so; only = h.only }

  -- one walk after another, or after a question
  pub walks_after : {old mid new : ErrorSink} {a b c : Asking} {o p : Bool → Outcome} → ((u : Bool) → IsAnswer a b u → GoesOn old mid (o u)) → OnlyAsks a b → Walks r mid new b c p
      → Walks r old new a c (λ u. after (o u) (p u))
  walks_after on only h = record {
    ends = λ u so. let first = on u (answer_first only h.only so) in ends_through (goes_after first) (stopped_after first) (h.ends u (answer_then only h.only so));
    only = only_then only h.only;
  }

  pub walks_asked : {old new : ErrorSink} {a b c : Asking} (o : Bool → Outcome) → OnlyAsks a b → Walks r old new b c o → Walks r old new a c o
  walks_asked o only h = record { ends = λ u so. h.ends u (answer_then only h.only so); only = only_then only h.only }

  -- there was no memory, and nothing was taken before
  pub walks_nowhere : {s : ErrorSink} {a b : Asking} {o : Bool → Outcome} → IsErr r → OnlyAsks a b → Walks r s s a b o
  walks_nowhere e only = record { ends = λ u so. ends_nowhere e; only = only }

-- a walk to its end, with another result
pub walks_on : {S T : Type 0} {x : S} {y : T} {old new : ErrorSink} {a b : Asking} {o : Bool → Outcome} → Walks (Ok x) old new a b o → Walks (Ok y) old new a b o
walks_on h = record { ends = λ u so. record { so = (h.ends u so).so }; only = h.only }

-- a walk that was stopped, before another
pub walks_before : {S : Type 0} {s : Stop} {old new : ErrorSink} {a b : Asking} {o : Bool → Outcome} (p : Bool → Outcome) → Walks {T = S} (Err s) old new a b o
    → Walks {T = S} (Err s) old new a b (λ u. after (o u) (p u))
walks_before p h = record { ends = λ u so. record { so = stopped_before (p u) (h.ends u so).so }; only = h.only }

-- ---- one error

module _ {old : ErrorSink} (e : ValidationError) where
  pub takes_first : {T : Type 0} {s : Stop} {slot : Option ValidationError} → old.held ≡ First slot → Takes {T = T} (Err s) old (record { alloc = old.alloc; held = First (Some e) }) (fault_of e)
  takes_first is = record { so = inl (record { one = ap is_first is; same = sym (ap is_first is); error = e; is = refl; found = refl }) }

  pub takes_more : {T : Type 0} {x : T} {es fs : Vec ValidationError Global} → old.held ≡ All es → fs.items ≡ es.items ++ e ∷ [] → Takes (Ok x) old (record { alloc = old.alloc; held = All fs }) (fault_of e)
  takes_more {fs = fs} is more = record {
    so = record {
      same = sym (ap is_first is);
      took = subst (λ b. Took b (held old) fs.items (one_error (fault_of e))) (sym (ap is_first is))
          (appends_one e (more ∙ ap (λ l. l ++ e ∷ []) (sym (ap errors_in is))) refl);
    };
  }

-- ---- what a stop leaves in the sink

only_error : {x y : ValidationError} → x ∷ [] ≡ y ∷ [] → x ≡ y
only_error h = cc

module _ {old new : ErrorSink} {So : Fault → Type 0} where
  error_is : {e : ValidationError} → wants_one old ≡ true → held old ≡ [] → e ∷ [] ≡ held new → Stopped old new So → So (fault_of e)
  error_is one none is (inl h) = subst So (ap fault_of (sym (only_error (is ∙ h.is)))) h.found
  error_is {e} one none is (inr h) = let nothing : e ∷ [] ≡ [] = is ∙ subst (Keeping old new) one h.kept ∙ none in absurd (cc)

  all_kept : wants_one old ≡ false → Stopped old new So → IsLonger (held old) (held new)
  all_kept all (inl h) = absurd (true≢false (sym h.one ∙ all))
  all_kept all (inr h) = subst (Keeping old new) all h.kept

  wants_same : Stopped old new So → wants_one new ≡ wants_one old
  wants_same (inl h) = h.same
  wants_same (inr h) = h.same

  module _ {T : Type 0} {s : Stop} {o : Outcome} (stops : EndsBy {T = T} (Err s) old new o So) where
    -- an error in a sink that wanted one, and had none, is the one by which it was stopped
    pub stopping_error : {e : ValidationError} → wants_one old ≡ true → held old ≡ [] → (wants_one new ≡ true → e ∷ [] ≡ held new) → So (fault_of e)
    stopping_error one none is = error_is one none (is (wants_same stops.so ∙ one)) stops.so

    -- a list of all errors, cut back to the length before, is the list before
    pub stopping_list : {n : ℕ} {es : List ValidationError} → wants_one old ≡ false → n ≡ length (held old) → (wants_one new ≡ false → es ≡ held new) → take n es ≡ held old
    stopping_list {n} {es} all len is =
        let longer = all_kept all stops.so in
        ap (λ k. take k es) len ∙ ap (take (length (held old))) (is (wants_same stops.so ∙ all) ∙ longer.is) ∙ take-append_seam (held old) longer.added

-- what a walk to its end leaves in a list of all errors
module _ {old new : ErrorSink} {o : Outcome} (on : GoesOn old new o) where
  pub list_of_all : {es fs : List ValidationError} → wants_one old ≡ false → held old ≡ es → (wants_one new ≡ false → fs ≡ held new) → Appends es fs o.all
  list_of_all all before is = rw (← before, is (on.same ∙ all)) (goes_appending all on)

-- where there was no memory for an error more
pub takes_none : {T : Type 0} {r : Result T Stop} {old : ErrorSink} {o : Outcome} {So : Fault → Type 0} {es fs : Vec ValidationError Global} → IsErr r → old.held ≡ All es → fs.items ≡ es.items
    → EndsBy r old (record { alloc = old.alloc; held = All fs }) o So
takes_none {old = old} {fs = fs} e is same =
    ends_left e (inr (record {
      same = sym (ap is_first is);
      kept = subst (λ b. Kept b (held old) fs.items) (sym (ap is_first is)) (record { added = []; is = same ∙ ap errors_in (sym is) ∙ sym (append-nil (held old)) });
    }))
