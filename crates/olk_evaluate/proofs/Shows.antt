-- One showing after another.
use Rattle.std.proofs.Common.{◌≡◌, Bool, List, [], ◌∷◌, Result, IfOk, IsErr, refl, sym, subst, ◌∙◌}
use Rattle.std.proofs.lemmas.Result.{IfOk-from_err, IfOk-weaker}
use Rattle.olk_spec.specs.Names.{Path}
use Rattle.olk_base.specs.Lawful.{Asking}
use Rattle.olk_check.specs.Asks.{OnlyAsks, IsAnswer}
use Rattle.olk_check.proofs.Asked.{only_same, only_then, answer_first, answer_then}
use Rattle.olk_evaluate.specs.Shows.{Kept, Shows}
use Rattle.olk_evaluate.specs.declared.EvaluationContext.{EvaluationContext}

pub kept_same : {p : Path} {a : Asking} → Kept p p a a
kept_same {a = a} = record { path = refl; only = only_same a }

pub kept_asked : {p : Path} {a b : Asking} → OnlyAsks a b → Kept p p a b
kept_asked h = record { path = refl; only = h }

pub kept_then : {p q s : Path} {a b c : Asking} → Kept p q a b → Kept q s b c → Kept p s a c
kept_then h k = record { path = k.path ∙ h.path; only = only_then h.only k.only }

-- what is so with the path now is so with the one before
pub as_before : {p q : Path} {a b : Asking} (So : Path → Type 0) → Kept p q a b → So q → So p
as_before So h s = subst So h.path s

module _ {T E : Type 0} {r : Result T E} {a b : EvaluationContext} {Then : Bool → T → Type 0} where
  -- a `?` leaves
  pub shows_err : IsErr r → Kept a.path b.path a.validation b.validation → Shows r a b Then
  shows_err e h = record { shown = λ u so. IfOk-from_err r (Then u) e; kept = h }

  -- a last call, whose result is handed on
  pub shows_of : {So : Bool → T → Type 0} → ((u : Bool) → IsAnswer a.validation b.validation u → IfOk r (So u)) → Kept a.path b.path a.validation b.validation
      → ((u : Bool) → IsAnswer a.validation b.validation u → (x : T) → So u x → Then u x) → Shows r a b Then
  shows_of {So} s h f = record { shown = λ u so. IfOk-weaker r (So u) (Then u) (f u so) (s u so); kept = h }

  pub shows_by : {So : T → Type 0} → IfOk r So → Kept a.path b.path a.validation b.validation
      → ((u : Bool) → IsAnswer a.validation b.validation u → (x : T) → So x → Then u x) → Shows r a b Then
  shows_by {So} s h f = shows_of {So = λ u. So} (λ u so. s) h f

  pub shows_weaker : {So : Bool → T → Type 0} → Shows r a b So → ((u : Bool) → IsAnswer a.validation b.validation u → (x : T) → So u x → Then u x) → Shows r a b Then
  shows_weaker h f = shows_of h.shown h.kept f

  -- the same behind other calls
  pub shows_then : {o : EvaluationContext} {So : Bool → T → Type 0} → Kept o.path a.path o.validation a.validation → Shows r a b So
      → ((u : Bool) → IsAnswer o.validation b.validation u → (x : T) → So u x → Then u x) → Shows r o b Then
  shows_then {So = So} k h f = record { shown = λ u so. IfOk-weaker r (So u) (Then u) (f u so) (h.shown u (answer_then k.only h.kept.only so)); kept = kept_then k h.kept }

-- ---- loops

-- of all, what is left is still to be done, and then old is new as More says; p and q are the path at the start and now, a and b the context
pub record LeavesEach {X S : Type 0} (More : Bool → Path → List X → S → S → Type 0) (all left : Bool → List X) (old new : S) (p q : Path) (a b : Asking) : Type 0 where
  pub goes_on : (u : Bool) → IsAnswer a b u → (end : S) → More u p (left u) new end → More u p (all u) old end
  pub kept : Kept p q a b

abbrev pub Leaves : {X S : Type 0} → (Bool → Path → List X → S → S → Type 0) → List X → List X → S → S → Path → Path → Asking → Asking → Type 0
Leaves More all left old new p q a b = LeavesEach More (λ u. all) (λ u. left) old new p q a b

module _ {X S : Type 0} {More : Bool → Path → List X → S → S → Type 0} {p : Path} {a : Asking} {old : S} where
  module _ {all left : Bool → List X} where
    pub each_all : ((u : Bool) → left u ≡ all u) → LeavesEach More all left old old p p a a
    each_all whole = record { goes_on = λ u so end. subst (λ l. More u p l old end) (whole u); kept = kept_same }

    module _ {new : S} {q : Path} {b : Asking} (loop : LeavesEach More all left old new p q a b) where
      -- one is done
      pub each_rest : {x : X} {rest : Bool → List X} {newer : S} {s : Path} {c : Asking} → ((u : Bool) → IsAnswer b c u → left u ≡ x ∷ rest u)
          → ((u : Bool) → IsAnswer b c u → (end : S) → More u q (rest u) newer end → More u q (x ∷ rest u) new end) → Kept q s b c → LeavesEach More all rest old newer p s a c
      each_rest {x} {rest} {newer} next done kept = record {
        goes_on = λ u so end k. let now = answer_then loop.kept.only kept.only so in
            loop.goes_on u (answer_first loop.kept.only kept.only so) end (subst (λ l. More u p l new end) (sym (next u now))
            (as_before (λ Q. (More u Q (rest u) newer end → More u Q (x ∷ rest u) new end)) loop.kept (done u now end) k));
        kept = kept_then loop.kept kept;
      }

      pub each_same : {rest : Bool → List X} {s : Path} {c : Asking} → ((u : Bool) → IsAnswer b c u → left u ≡ rest u) → Kept q s b c → LeavesEach More all rest old new p s a c
      each_same same kept = record {
        goes_on = λ u so end k. loop.goes_on u (answer_first loop.kept.only kept.only so) end (subst (λ l. More u p l new end) (sym (same u (answer_then loop.kept.only kept.only so))) k);
        kept = kept_then loop.kept kept;
      }

      pub leaves_none : {u : Bool} → left u ≡ [] → IsAnswer a b u → More u p [] new new → More u p (all u) old new
      leaves_none {u} none so nothing = loop.goes_on u so new (subst (λ l. More u p l new new) (sym none) nothing)

  module _ {all left : List X} where
    pub leaves_all : left ≡ all → Leaves More all left old old p p a a
    leaves_all whole = each_all (λ u. whole)

    module _ {new : S} {q : Path} {b : Asking} (loop : Leaves More all left old new p q a b) where
      pub leaves_rest : {x : X} {rest : List X} {newer : S} {s : Path} {c : Asking} → left ≡ x ∷ rest
          → ((u : Bool) → IsAnswer b c u → (end : S) → More u q rest newer end → More u q (x ∷ rest) new end) → Kept q s b c → Leaves More all rest old newer p s a c
      leaves_rest next done kept = each_rest loop (λ u so. next) done kept

      pub leaves_same : {rest : List X} {s : Path} {c : Asking} → left ≡ rest → Kept q s b c → Leaves More all rest old new p s a c
      leaves_same same kept = each_same loop (λ u so. same) kept
