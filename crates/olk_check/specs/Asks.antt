-- What answering a question leaves of the context.
use Rattle.std.specs.Prelude.{◌≡◌, ◌⊎◌, ◌-◌, ◌^◌, ◌<◌, ◌≤◌, Bool, true, false}
use Rattle.serde_json.specs.Data.{Data}
use Rattle.olk_spec.specs.World.{World}
use Rattle.olk_spec.specs.Meaning.{accepts, asks}
use Rattle.olk_base.specs.Count.{raised}
use Rattle.olk_base.specs.Lawful.{Asking}
use Rattle.olk_tree.specs.Questions.{Tally, Question, of_asked}

-- nothing is built, the answer for unfinished matches is kept, and no count falls
pub record OnlyAsks (old new : Asking) : Type 0 where
  pub answer : new.answer ≡ old.answer
  pub compiled : new.meter.compiled ≡ old.meter.compiled
  pub leaves : new.meter.leaves ≡ old.meter.leaves
  pub made : new.meter.made ≡ old.meter.made
  pub asked : old.meter.asked ≤ new.meter.asked
  pub unfinished : old.meter.unfinished ≤ new.meter.unfinished

-- an answer for unfinished matches with which all goes as it went: the context's own, and either where no match was left unfinished
pub record IsAnswer (old new : Asking) (u : Bool) : Type 0 where
  pub is : (u ≡ old.answer) ⊎ ((new.meter.unfinished ≡ old.meter.unfinished) × (old.meter.unfinished < 2 ^ 64 - 1))

-- where no match was left unfinished, both answers give the same
pub record IsCertain {A : Type 0} (old new : Asking) (f : Bool → A) : Type 0 where
  pub same : new.meter.unfinished ≡ old.meter.unfinished → old.meter.unfinished < 2 ^ 64 - 1 → f true ≡ f false

-- the answer to a question, with the context's answer for unfinished matches; no more matchers are asked than the question says, and no more matches are counted as left unfinished than are asked, or than are left unfinished of these
pub record Asks (old new : Asking) (q : Question) (result : Bool) : Type 0 where
  pub only : OnlyAsks old new
  pub asked_to : new.meter.asked ≤ raised old.meter.asked (q.asks of_asked old.answer)
  pub unfinished_to : (k : Tally) → new.meter.unfinished ≤ raised old.meter.unfinished (q.asks k old.answer)
  pub verdict : result ≡ q.accepts old.answer
  -- where no match was left unfinished, the verdict is that of both answers
  pub certain : new.meter.unfinished ≡ old.meter.unfinished → old.meter.unfinished < 2 ^ 64 - 1 → (u : Bool) → result ≡ q.accepts u

-- the same, for what a schema says of a value
pub record AsksSchema (W : World) (S v : Data) (old new : Asking) (result : Bool) : Type 0 where
  pub only : OnlyAsks old new
  pub asked_to : new.meter.asked ≤ raised old.meter.asked (asks W old.answer S v)
  pub unfinished_to : new.meter.unfinished ≤ raised old.meter.unfinished (asks W old.answer S v)
  pub verdict : result ≡ accepts W old.answer S v
  pub certain : new.meter.unfinished ≡ old.meter.unfinished → old.meter.unfinished < 2 ^ 64 - 1 → accepts W true S v ≡ accepts W false S v
