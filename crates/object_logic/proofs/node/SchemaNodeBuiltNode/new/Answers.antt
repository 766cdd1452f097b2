use Rattle.olk_base.specs.Kit.{kit}
use Rattle.object_logic.proofs.Layers.{node_answers}
use Rattle.object_logic.proofs.node.SchemaNodeBuiltNode.new.Goals as goal

pub returns : goal.returns
returns g c = node_answers (kit g.K.Leaf g.R.RegexEngine) c.new.result c.args.location c.args.body c.new.ensures.place c.new.ensures.body
