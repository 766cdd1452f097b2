use Rattle.std.proofs.Common.{sym, ap, ◌∙◌, drop}
use Rattle.std.specs.List.{zip}
use Rattle.serde_json.specs.Find.{as_array}
use Rattle.olk_base.specs.Nodes.{subject_data}
use Rattle.olk_spec.specs.Malformed.{items_of_array}
use Rattle.olk_spec.specs.Names.{◌//◌}
use Rattle.olk_spec.specs.Schemas.{numbered}
use Rattle.olk_reports.specs.Paths.{path_at}
use Rattle.olk_errors.specs.Outcomes.{of_each}
use Rattle.olk_errors.proofs.Loops.{walking_start, walking_end}
use Rattle.olk_errors.proofs.Sinks.{walks_same}
use Rattle.olk_documents.proofs.Pairs.{second_ends}
use Rattle.olk_documents.proofs.Positions.{listed_as, nothing_listed}
use Rattle.olk_documents.proofs.errors.PrefixItemsWalk.walk.Goals as goal

pub returns-in-Some : goal.returns-in-Some
returns-in-Some g c =
    let k = c.args.self.now in
    let Q = path_at c.args.trail.now in
    walks_same (λ u so. ap (λ ds. of_each u (λ e. g.N.Means.means e.0 e.1.1) (λ e. g.N.Reports.first e.0 u e.1.1 (Q // e.1.0)) (λ e. g.N.Reports.report e.0 u e.1.1 (Q // e.1.0)) (zip k.schemas.items (drop 0 (numbered ds))))
    (sym (listed_as (subject_data c.args.node) c.in-Some.items.now.items (c.in-Some.ensures ∙ ap as_array c.node.ensures)))) c.walk_pairs.ensures

pub returns-in-None : goal.returns-in-None
returns-in-None g c =
    let Q = path_at c.args.trail.now in
    walking_end {q = λ e. g.N.Means.means e.0 e.1.1} {s = λ u e. g.N.Reports.first e.0 u e.1.1 (Q // e.1.0)} {f = λ u e. g.N.Reports.report e.0 u e.1.1 (Q // e.1.0)} walking_start
    (second_ends c.args.self.now.schemas.items (numbered (items_of_array (subject_data c.args.node))) 0 (ap numbered (nothing_listed (subject_data c.args.node) (c.in-None.ensures ∙ ap as_array c.node.ensures))))
