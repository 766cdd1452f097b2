use Rattle.std.specs.Prelude.{Some}
use Rattle.std.proofs.Common.{[], ◌∷◌, ◌++◌}
use Rattle.serde_json.specs.View.{view}
use Rattle.olk_base.specs.Kit.{world}
use Rattle.olk.proofs.Checked.{checked_append, failure_ends}
use Rattle.olk.proofs.instances.check_each_line.Goals.{then-not-is_blank+in_ok-check_text, else-not-is_blank}
use Rattle.olk.proofs.instances.check_each_line.Goals as goal

pub returns-in-Err : goal.returns-in-Err
returns-in-Err g c =
    let before = c.loop-number.invariant in
    failure_ends c.pass_over.result (world g.K.Leaf g.R.RegexEngine) (view c.args.checker.now.schema.now) c.args.console.now.status c.loop-number.console.status c.pass_over.new.console.status before.0 before.1 c.pass_over.ensures

pub loop-number-preserved : goal.loop-number-preserved
loop-number-preserved g c =
    let before = c.loop-number.invariant in
    let line = Some c.unwrap_or-line.result.now ∷ [] in
    elim c.if-not-is_blank.branch [
      | then-not-is_blank+in_ok-check_text w ↦ rw w.console-is (before.0 ++ line, checked_append (world g.K.Leaf g.R.RegexEngine) (view c.args.checker.now.schema.now) c.args.console.now.status c.loop-number.console.status w.check_text.new.console.status before.0 line before.1 w.in_ok-check_text.ensures)
      | else-not-is_blank w ↦ rw w.console-is before
    ]
