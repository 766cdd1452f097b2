use Rattle.olk_base.specs.Kit.{kit}
use Rattle.olk_base.specs.Nodes.{subject_data}
use Rattle.olk_reports.specs.Paths.{path_at}
use Rattle.olk_errors.proofs.Sinks.{walks_same}
use Rattle.olk_documents.proofs.Outcomes.{node_outcome}
use Rattle.olk_documents.proofs.errors.DocumentNodeWalk.+errors.Goals as goal

pub returns : goal.returns
returns g t c = walks_same (λ u so. node_outcome (kit g.K.Leaf g.R.RegexEngine) c.args.self.now (subject_data c.args.node) (path_at c.args.trail.now) c.as_str.result.now c.as_str.ensures u) c.walk_place.ensures
