use Rattle.olk_base.specs.Kit.{kit}
use Rattle.olk_base.specs.Nodes.{subject_data}
use Rattle.olk_evaluate.proofs.Shows.{shows_weaker}
use Rattle.object_logic.proofs.Going.{place_shown}
use Rattle.object_logic.proofs.node.SchemaNodeShow.+show.Goals as goal

pub returns : goal.returns
returns g t c = shows_weaker c.show_body.ensures (λ u so _ h. place_shown (kit g.K.Leaf g.R.RegexEngine) c.args.self.now (subject_data c.args.node) c.args.ctx.now.path u _ h)
