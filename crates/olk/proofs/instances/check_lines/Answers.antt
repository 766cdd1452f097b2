use Rattle.std.proofs.Common.{[], refl}
use Rattle.serde_json.specs.View.{view}
use Rattle.olk_base.specs.Kit.{world}
use Rattle.olk.proofs.Checked.{failure_ends}
use Rattle.olk.proofs.instances.check_lines.Goals as goal

pub returns-in-Err : goal.returns-in-Err
returns-in-Err g c =
    let status = c.args.console.now.status in
    failure_ends c.pass_over.result (world g.K.Leaf g.R.RegexEngine) (view c.args.checker.now.schema.now) status status c.pass_over.new.console.status [] refl c.pass_over.ensures
