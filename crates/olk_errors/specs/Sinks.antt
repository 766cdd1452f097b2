-- What a sink has after a walk, or after one error.
use Rattle.std.specs.Prelude.{◌≡◌, ◌⊎◌, Bool, true, false, List, [], ◌∷◌, ◌++◌, option_to_list, Result, Ok, Err}
use Rattle.olk_base.specs.Lawful.{Asking}
use Rattle.olk_spec.specs.Faults.{Fault}
use Rattle.olk_reports.specs.Errors.{fault_of}
use Rattle.olk_reports.specs.declared.error.ValidationError.{ValidationError}
use Rattle.olk_check.specs.Asks.{OnlyAsks, IsAnswer}
use Rattle.olk_errors.specs.Found.{Appends, Outcome, Passes, IsErrorOf}
use Rattle.olk_errors.specs.declared.sink.ErrorSink.{ErrorSink}
use Rattle.olk_errors.specs.declared.sink.Held.{Held}
use Rattle.olk_errors.specs.declared.sink.Held.TheVariants.{First, All}
use Rattle.olk_errors.specs.declared.sink.Stop.{Stop}

abbrev pub is_first : Held → Bool
is_first (First e) = true
is_first (All es) = false

abbrev pub errors_in : Held → List ValidationError
errors_in (First e) = option_to_list e
errors_in (All es) = es.items

-- whether one error is enough
abbrev pub wants_one : ErrorSink → Bool
wants_one s = is_first s.held

-- what it has taken
abbrev pub held : ErrorSink → List ValidationError
held s = errors_in s.held

-- by lists, of which one error is wanted, or all: all errors of an outcome were taken, and where one is wanted there is none
abbrev pub Took : Bool → List ValidationError → List ValidationError → Outcome → Type 0
Took false old new o = Appends old new o.all
Took true old new o = Passes o × (new ≡ old)

-- after a walk that went to its end
pub record GoesOn (old new : ErrorSink) (o : Outcome) : Type 0 where
  pub same : wants_one new ≡ wants_one old
  pub took : Took (wants_one old) (held old) (held new) o

-- the one error that it wants is this, of which that is so
pub record HasOne (old new : ErrorSink) (So : Fault → Type 0) : Type 0 where
  pub one : wants_one old ≡ true
  pub same : wants_one new ≡ wants_one old
  pub error : ValidationError
  pub is : held new ≡ error ∷ []
  pub found : So (fault_of error)

-- the new list is the old one with more behind it
pub record IsLonger (old new : List ValidationError) : Type 0 where
  pub added : List ValidationError
  pub is : new ≡ old ++ added

abbrev pub Kept : Bool → List ValidationError → List ValidationError → Type 0
Kept false old new = IsLonger old new
Kept true old new = new ≡ old

-- nothing is lost that was in a list of all errors, and where one is wanted there is none more
pub record Keeps (old new : ErrorSink) : Type 0 where
  pub same : wants_one new ≡ wants_one old
  pub kept : Kept (wants_one old) (held old) (held new)

abbrev pub Stopped : ErrorSink → ErrorSink → (Fault → Type 0) → Type 0
Stopped old new So = HasOne old new So ⊎ Keeps old new

-- what a sink has by how a walk ended: all of the outcome was taken; or the walk was stopped, by an error of which that is so, or by a lack of memory
abbrev pub Ended : {T : Type 0} → Result T Stop → ErrorSink → ErrorSink → Outcome → (Fault → Type 0) → Type 0
Ended (Ok x) old new o So = GoesOn old new o
Ended (Err s) old new o So = Stopped old new So

pub record EndsBy {T : Type 0} (r : Result T Stop) (old new : ErrorSink) (o : Outcome) (So : Fault → Type 0) : Type 0 where
  pub so : Ended r old new o So

-- the error is one of the outcome
abbrev pub Ends : {T : Type 0} → Result T Stop → ErrorSink → ErrorSink → Outcome → Type 0
Ends r old new o = EndsBy r old new o (IsErrorOf o)

-- the error is the only one of the outcome
abbrev pub EndsAlone : {T : Type 0} → Result T Stop → ErrorSink → ErrorSink → Outcome → Type 0
EndsAlone r old new o = EndsBy r old new o (λ f. f ∷ [] ≡ o.all)

abbrev pub one_error : Fault → Outcome
one_error f = record { accepts = false; first = f ∷ []; all = f ∷ [] }

-- the error is this
abbrev pub Takes : {T : Type 0} → Result T Stop → ErrorSink → ErrorSink → Fault → Type 0
Takes r old new f = EndsBy r old new (one_error f) (λ g. g ≡ f)

-- what a walk leaves in a sink and in a context, which are these before and after; o has what asking comes to with either answer, and the walk comes to that with each answer with which all goes as it went
pub record Walks {T : Type 0} (r : Result T Stop) (old new : ErrorSink) (a b : Asking) (o : Bool → Outcome) : Type 0 where
  pub ends : (u : Bool) → IsAnswer a b u → Ends r old new (o u)
  pub only : OnlyAsks a b
