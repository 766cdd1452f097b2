use Rattle.std.proofs.Common.{ap}
use Rattle.std.proofs.lemmas.Result.{IfOk-weaker}
use Rattle.serde_json.specs.View.{view}
use Rattle.olk_base.specs.Lawful.{Asking}
use Rattle.olk_reports.specs.Entries.{evaluated}
use Rattle.olk.proofs.answer.tell_evaluation.Goals as goal

pub returns : goal.returns
returns g c =
    let q = c.args.question.now in
    let same = ap (λ (a : Asking). a.answer) c.new-ctx.ensures in
    let shows = rw same at (c.in_ok-evaluation.ensures.tree (view q.schema.now) c.requires.stands) in
    let valid = rw same at (c.in_ok-evaluation.ensures.verdict (view q.schema.now) c.requires.stands) in
    IfOk-weaker c.evaluation_text.result _ _ (λ answer is. record { tree = evaluated c.in_ok-evaluation.evaluation; is_tree = shows; verdict = valid; is = is }) c.evaluation_text.ensures
