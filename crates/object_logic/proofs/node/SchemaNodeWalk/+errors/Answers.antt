use Rattle.olk_base.specs.Kit.{kit}
use Rattle.olk_base.specs.Nodes.{subject_data}
use Rattle.olk_reports.specs.Paths.{path_at}
use Rattle.object_logic.proofs.Going.{place_walked}
use Rattle.object_logic.proofs.node.SchemaNodeWalk.+errors.Goals as goal

pub returns : goal.returns
returns g t c = place_walked (kit g.K.Leaf g.R.RegexEngine) c.args.self.now (subject_data c.args.node) (path_at c.args.trail.now) c.as_str.ensures c.walk_body.ensures
