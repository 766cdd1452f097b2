use Rattle.std.specs.Prelude.{Some}
use Rattle.serde_json.specs.View.{view}
use Rattle.olk_base.specs.Kit.{world}
use Rattle.olk.proofs.Checked.{one_ends, one_failure_ends}
use Rattle.olk.proofs.instances.check_file.Goals as goal

pub returns-in-Ok : goal.returns-in-Ok
returns-in-Ok g c = one_ends c.check_text.result (world g.K.Leaf g.R.RegexEngine) (view c.args.checker.now.schema.now) c.args.console.now.status c.check_text.new.console.status (Some c.deref.result.now) c.check_text.ensures

pub returns-in-Err : goal.returns-in-Err
returns-in-Err g c = one_failure_ends c.pass_over.result (world g.K.Leaf g.R.RegexEngine) (view c.args.checker.now.schema.now) c.args.console.now.status c.pass_over.new.console.status c.pass_over.ensures
