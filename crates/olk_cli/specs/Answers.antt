-- What a line is answered.
use Rattle.std.specs.Prelude.{◌≡◌, List, [], ◌∷◌, codes, Contains}
use Rattle.olk_spec.specs.Names.{Text}
use Rattle.olk_spec.specs.Faults.{Fault}
use Rattle.olk_spec.specs.Malformed.{malformations}
use Rattle.olk_spec.specs.Meaning.{accepts}
use Rattle.olk_spec.specs.Bench.{bench}
use Rattle.olk_answers.specs.Refusals.{refusal, fault_refusal}
use Rattle.olk_answers.specs.Told.{verdict}
use Rattle.olk_answers.specs.Texts.{json_text}
use Rattle.olk_replies.specs.Replies.{TellsSome, TellsErrors, TellsEvaluation}
use Rattle.olk_cli.specs.declared.request.Ask.{Ask}
use Rattle.olk_cli.specs.declared.request.Ask.TheVariants.{Valid, First, Errors, Evaluate}
use Rattle.olk_cli.specs.Requests.{Asked, Understood, not_json, not_a_request, not_whole, asks, question, understood}

-- the answer by what is asked
abbrev pub IsReplyBy : Ask → Asked → Text → Type 0
IsReplyBy Valid r answer = answer ≡ json_text (verdict (accepts bench r.unfinished r.schema r.instance))
IsReplyBy First r answer = TellsSome bench (question r) answer
IsReplyBy Errors r answer = TellsErrors bench (question r) answer
IsReplyBy Evaluate r answer = TellsEvaluation bench (question r) answer

-- a malformed schema is refused by one of its malformations, and what is asked of another is answered
abbrev pub IsReplyWhere : List Fault → Asked → Text → Type 0
IsReplyWhere [] r answer = IsReplyBy r.ask r answer
IsReplyWhere (f ∷ fs) r answer = (g : Fault) × Contains (f ∷ fs) g × (answer ≡ json_text (fault_refusal g))

unfoldable pub IsReply : Asked → Text → Type 0
IsReply r answer = IsReplyWhere (malformations bench r.schema) r answer

-- the answer to what a line is understood as
abbrev pub IsAnswerTo : Understood → Text → Type 0
IsAnswerTo not_json answer = answer ≡ json_text (refusal (codes "not JSON"))
IsAnswerTo not_a_request answer = answer ≡ json_text (refusal (codes "not a request"))
IsAnswerTo not_whole answer = answer ≡ json_text (refusal (codes "a number is not a whole number of 64 bits"))
IsAnswerTo (asks r) answer = IsReply r answer

-- the answer to a line, without its line feed
unfoldable pub IsAnswer : Text → Text → Type 0
IsAnswer line answer = IsAnswerTo (understood line) answer
