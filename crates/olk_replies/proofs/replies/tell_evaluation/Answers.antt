use Rattle.std.proofs.Common.{ap}
use Rattle.std.proofs.lemmas.Result.{IfOk-weaker}
use Rattle.olk_base.specs.Lawful.{Asking}
use Rattle.olk_base.specs.Kit.{world}
use Rattle.olk_reports.specs.Entries.{evaluated}
use Rattle.olk_replies.specs.Seen.{seen}
use Rattle.olk_replies.proofs.Telling.{shown_is_evaluation}
use Rattle.olk_replies.proofs.replies.tell_evaluation.Goals as goal

pub returns : goal.returns
returns g c =
    let q = seen c.args.question.now in
    let same = ap (λ (a : Asking). a.answer) c.new-ctx.ensures in
    let shows = rw same at (c.in_ok-evaluation.ensures.tree q.schema c.requires.stands) in
    let valid = rw same at (c.in_ok-evaluation.ensures.verdict q.schema c.requires.stands) in
    IfOk-weaker c.evaluation_text.result _ _ (λ answer is plain. shown_is_evaluation (world g.K.Leaf g.R.RegexEngine) q plain (evaluated c.in_ok-evaluation.evaluation) answer.items shows valid is) c.evaluation_text.ensures
