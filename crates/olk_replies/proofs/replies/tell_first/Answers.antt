use Rattle.std.proofs.Common.{ap}
use Rattle.std.proofs.lemmas.Result.{IfOk-weaker}
use Rattle.olk_base.specs.Lawful.{Asking}
use Rattle.olk_base.specs.Kit.{world}
use Rattle.olk_replies.specs.Seen.{seen}
use Rattle.olk_replies.proofs.Telling.{found_is_first}
use Rattle.olk_replies.proofs.replies.tell_first.Goals as goal

pub returns : goal.returns
returns g c =
    let q = seen c.args.question.now in
    let same = ap (λ (a : Asking). a.answer) c.new-ctx.ensures in
    let ok = rw same at (c.validate-found.ensures.ok q.schema c.requires.stands) in
    let invalid = rw same at (c.validate-found.ensures.invalid q.schema c.requires.stands) in
    let first = rw same at c.validate-found.ensures.first in
    IfOk-weaker c.first_text.result _ _ (λ answer is plain. found_is_first (world g.K.Leaf g.R.RegexEngine) q plain _ c.validate-found.result answer.items ok invalid first is) c.first_text.ensures
