use Rattle.serde_json.specs.View.{view}
use Rattle.olk_base.specs.Kit.{world}
use Rattle.std.proofs.Common.{◌∙◌}
use Rattle.olk.proofs.Checked.{unread_ends}
use Rattle.olk.proofs.instances.check_text.Goals as goal

pub returns-in-None : goal.returns-in-None
returns-in-None g c =
    let read = rw c.in-None.is at c.in_ok-instance.ensures in
    unread_ends c.refuse.result (world g.K.Leaf g.R.RegexEngine) (view c.args.checker.now.schema.now) c.args.console.now.status c.refuse.new.console.status c.args.text.now read.0 (c.refuse.ensures ∙ read.1)
