-- What a line asks.
use Rattle.std.specs.Prelude.{ℕ, Bool, true, false, ◌&&◌, ◌||◌, List, codes, if◌then◌else◌, Option, Some, None, bytes_eq}
use Rattle.std.specs.Str.{is_utf8}
use Rattle.serde_json.specs.Data.{Data, null, boolean, number, string, array, object, Members, no_members, member}
use Rattle.serde_json.specs.Find.{get_member, as_str, as_bool}
use Rattle.serde_json.specs.Read.{read}
use Rattle.olk_replies.specs.Replies as replies
use Rattle.olk_replies.specs.Replies.{has_fraction}
use Rattle.olk_cli.specs.declared.request.Ask.{Ask}
use Rattle.olk_cli.specs.declared.request.Ask.TheVariants.{Valid, First, Errors, Evaluate}

-- a request, without where it lies in memory
pub record Asked : Type 0 where
  pub ask : Ask
  pub schema : Data
  pub instance : Data
  pub unfinished : Bool

abbrev pub ask_of : List ℕ → Option Ask
ask_of word =
    if bytes_eq word (codes "valid") then Some Valid
    else if bytes_eq word (codes "first") then Some First
    else if bytes_eq word (codes "errors") then Some Errors
    else if bytes_eq word (codes "evaluate") then Some Evaluate
    else None

abbrev pub is_request_name : List ℕ → Bool
is_request_name name = bytes_eq name (codes "ask") || bytes_eq name (codes "schema") || bytes_eq name (codes "instance") || bytes_eq name (codes "unfinished")

-- it has no other member
abbrev pub has_only_request_names : Members → Bool
has_only_request_names no_members = true
has_only_request_names (member name d ms) = is_request_name name && has_only_request_names ms

-- the answer for unfinished matches is false where it is absent
abbrev pub unfinished_of : Option Data → Option Bool
unfinished_of None = Some false
unfinished_of (Some d) = as_bool d

infixl 10 ◌>>=◌
abbrev pub ◌>>=◌ : {A B : Type 0} → Option A → (A → Option B) → Option B
None >>= f = None
(Some x) >>= f = f x

-- the three members that have to be there, and the one that may
abbrev pub asked_by : Members → Option Asked
asked_by ms = do
  value ← get_member (codes "ask") ms
  word ← as_str value
  ask ← ask_of word
  schema ← get_member (codes "schema") ms
  instance ← get_member (codes "instance") ms
  unfinished ← unfinished_of (get_member (codes "unfinished") ms)
  Some (record { ask = ask; schema = schema; instance = instance; unfinished = unfinished })

-- what a value asks, where it is a request
abbrev pub asked : Data → Option Asked
asked (object ms) = if has_only_request_names ms then asked_by ms else None
asked null = None
asked (boolean b) = None
asked (number n) = None
asked (string s) = None
asked (array ds) = None

-- what is asked about
abbrev pub question : Asked → replies.Asked
question r = record { schema = r.schema; instance = r.instance; unfinished = r.unfinished }

-- what a line is understood as: the first of these that it is
pub data Understood : Type 0 where
  not_json : Understood
  not_a_request : Understood
  not_whole : Understood
  asks : Asked → Understood

abbrev pub understood_request : Option Asked → Understood
understood_request None = not_a_request
understood_request (Some r) = if has_fraction (question r) then not_whole else asks r

abbrev pub understood_value : Option Data → Understood
understood_value None = not_json
understood_value (Some d) = understood_request (asked d)

-- the value that the line is the text of
abbrev pub value_of : List ℕ → Option Data
value_of line = if is_utf8 line then read line else None

abbrev pub understood : List ℕ → Understood
understood line = understood_value (value_of line)
