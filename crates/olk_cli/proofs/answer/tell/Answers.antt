use Rattle.std.proofs.lemmas.Result.{IfOk-weaker}
use Rattle.olk_base.specs.Kit.{world}
use Rattle.olk_replies.proofs.Telling.{first_is_some}
use Rattle.olk_cli.specs.Requests.{question}
use Rattle.olk_cli.specs.Seen.{seen}
use Rattle.olk_cli.proofs.answer.tell.Goals as goal

pub returns-in-Valid : goal.returns-in-Valid
returns-in-Valid g c = rw c.in-Valid.is (rw c.requires.bench at c.tell_verdict.ensures)

pub returns-in-First : goal.returns-in-First
returns-in-First g c = rw c.in-First.is (rw c.requires.bench at (IfOk-weaker c.tell_first.result _ _
    (λ answer told. first_is_some (world g.K.Leaf g.R.RegexEngine) (question (seen c.args.request.now)) c.requires.plain _ answer.items (told c.requires.plain)) c.tell_first.ensures))

pub returns-in-Errors : goal.returns-in-Errors
returns-in-Errors g c = rw c.in-Errors.is (rw c.requires.bench at (IfOk-weaker c.tell_errors.result _ _ (λ answer told. told c.requires.plain) c.tell_errors.ensures))

pub returns-in-Evaluate : goal.returns-in-Evaluate
returns-in-Evaluate g c = rw c.in-Evaluate.is (rw c.requires.bench at (IfOk-weaker c.tell_evaluation.result _ _ (λ answer told. told c.requires.plain) c.tell_evaluation.ensures))
