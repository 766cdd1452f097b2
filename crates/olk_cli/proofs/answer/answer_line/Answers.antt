use Rattle.std.proofs.Common.{Option, IfOk, subst}
use Rattle.serde_json.specs.Data.{Data}
use Rattle.olk_cli.specs.Answers.{IsAnswerTo, IsAnswer}
use Rattle.olk_cli.specs.Requests.{understood_value}
use Rattle.olk_cli.proofs.answer.answer_line.Goals as goal

pub returns-in-None : goal.returns-in-None
unfolding IsAnswer
returns-in-None c =
    let none = rw c.in-None.is at c.in_ok-value.ensures in
    subst (λ (v : Option Data). IfOk c.refusal_text.result (λ text. IsAnswerTo (understood_value v) text.items)) none c.refusal_text.ensures
