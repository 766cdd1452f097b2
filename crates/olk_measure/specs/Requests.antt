-- What is asked, and how often.
use Rattle.std.specs.Prelude.{ℕ, List, codes, if◌then◌else◌, Option, Some, None, bytes_eq, option_and_then}
use Rattle.serde_json.specs.Data.{Data, null, boolean, number, string, array, object, Members}
use Rattle.serde_json.specs.Find.{get_member, as_str, as_number, as_u64}
use Rattle.serde_json.specs.View.{view}
use Rattle.olk_measure.specs.declared.request.Ask.{Ask}
use Rattle.olk_measure.specs.declared.request.Ask.TheVariants.{Valid, First, Errors, Evaluate, Build}
use Rattle.olk_measure.specs.declared.request.Request.{Request}

-- a request, without where it lies in memory
pub record Asked : Type 0 where
  pub ask : Ask
  pub times : ℕ
  pub schema : Data
  pub instance : Data

abbrev pub ask_of : List ℕ → Option Ask
ask_of word =
    if bytes_eq word (codes "valid") then Some Valid
    else if bytes_eq word (codes "first") then Some First
    else if bytes_eq word (codes "errors") then Some Errors
    else if bytes_eq word (codes "evaluate") then Some Evaluate
    else if bytes_eq word (codes "build") then Some Build
    else None

infixl 10 ◌>>=◌
abbrev pub ◌>>=◌ : {A B : Type 0} → Option A → (A → Option B) → Option B
None >>= f = None
(Some x) >>= f = f x

abbrev pub asked_by : Members → Option Asked
asked_by ms = do
  value ← get_member (codes "ask") ms
  word ← as_str value
  ask ← ask_of word
  count ← get_member (codes "times") ms
  times ← option_and_then as_u64 (as_number count)
  schema ← get_member (codes "schema") ms
  instance ← get_member (codes "instance") ms
  Some (record { ask = ask; times = times; schema = schema; instance = instance })

-- what a value asks, where it is a request
abbrev pub asked : Data → Option Asked
asked (object ms) = asked_by ms
asked null = None
asked (boolean b) = None
asked (number n) = None
asked (string s) = None
asked (array ds) = None

abbrev pub seen : Request → Asked
seen r = record { ask = r.ask; times = r.times; schema = view r.schema.now; instance = view r.instance.now }
