use Rattle.serde_json.specs.View.{view}
use Rattle.olk_base.specs.Kit.{world}
use Rattle.olk.proofs.Checked.{one_listed_ends}
use Rattle.olk.proofs.instances.check_path.Goals as goal

pub returns-else-checker : goal.returns-else-checker
returns-else-checker g c = one_listed_ends c.check_file.result (world g.K.Leaf g.R.RegexEngine) (view c.args.checker.now.schema.now) c.args.console.now.status c.check_file.new.console.status c.args.checker.now.options.now.has_lines c.check_file.ensures
