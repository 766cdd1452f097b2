use Rattle.std.proofs.Common.{sym, ap, ◌∙◌, drop}
use Rattle.serde_json.specs.Find.{as_array}
use Rattle.olk_base.specs.Nodes.{subject_data}
use Rattle.olk_spec.specs.Names.{◌//◌}
use Rattle.olk_spec.specs.Schemas.{numbered}
use Rattle.olk_reports.specs.Paths.{path_at}
use Rattle.olk_errors.specs.Outcomes.{of_each}
use Rattle.olk_errors.proofs.Loops.{walking_start, walking_end}
use Rattle.olk_errors.proofs.Sinks.{walks_same}
use Rattle.olk_documents.proofs.Positions.{listed_as, nothing_listed, none_left}
use Rattle.olk_documents.proofs.errors.ItemsWalk.walk.Goals as goal

pub returns-in-Some : goal.returns-in-Some
returns-in-Some g c =
    let k = c.args.self.now in
    let Q = path_at c.args.trail.now in
    walks_same (λ u so. ap (λ ds. of_each u (λ e. g.N.Means.means k.node e.1) (λ e. g.N.Reports.first k.node u e.1 (Q // e.0)) (λ e. g.N.Reports.report k.node u e.1 (Q // e.0)) (drop k.skip (numbered ds)))
    (sym (listed_as (subject_data c.args.node) c.in-Some.items.now.items (c.in-Some.ensures ∙ ap as_array c.node.ensures)))) c.walk_items.ensures

pub returns-in-None : goal.returns-in-None
returns-in-None g c =
    let k = c.args.self.now in
    let Q = path_at c.args.trail.now in
    walking_end {q = λ e. g.N.Means.means k.node e.1} {s = λ u e. g.N.Reports.first k.node u e.1 (Q // e.0)} {f = λ u e. g.N.Reports.report k.node u e.1 (Q // e.0)} walking_start
    (none_left k.skip _ (nothing_listed (subject_data c.args.node) (c.in-None.ensures ∙ ap as_array c.node.ensures)))
