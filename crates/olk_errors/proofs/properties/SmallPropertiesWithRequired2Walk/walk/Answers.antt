use Rattle.std.proofs.Common.{[], ◌∷◌, refl, string_bytes}
use Rattle.serde_json.specs.Data.{object}
use Rattle.serde_json.specs.View.{members_view}
use Rattle.olk_base.specs.Nodes.{subject_data}
use Rattle.olk_reports.specs.Paths.{path_at}
use Rattle.olk_tree.proofs.Members_met.{object_is}
use Rattle.olk_tree.specs.Maps.{named, two_texts}
use Rattle.olk_check.proofs.Asked.{only_same}
use Rattle.olk_errors.proofs.Fused.{two_then_members}
use Rattle.olk_errors.proofs.Members.{other_unasked}
use Rattle.olk_errors.proofs.Missing.{other_lacks_nothing}
use Rattle.olk_errors.proofs.Sinks.{after, goes_after, walks_past, walks_same, walks_alone, walks_after, walks_left, walks_before}
use Rattle.olk_errors.specs.Outcomes.{of_names, of_properties}
use Rattle.olk_errors.proofs.properties.SmallPropertiesWithRequired2Walk.walk.Goals as goal

pub returns-in_err-report_if_missing-in-Some : goal.returns-in_err-report_if_missing-in-Some
returns-in_err-report_if_missing-in-Some g c =
    walks_same (λ u so. two_then_members (λ v. of_properties g.N.Means.means g.N.Reports.first g.N.Reports.report u (named c.args.self.now.properties) v (path_at c.args.trail.now)) (path_at c.args.trail.now) c.as_str.ensures.value (λ i. string_bytes c.args.self.now.second) refl
    (object_is (subject_data c.args.node) (members_view c.in-Some.members.now.entries) c.in-Some.ensures))
    (walks_left c.from_residual.ensures.0 (walks_before (λ u. of_properties g.N.Means.means g.N.Reports.first g.N.Reports.report u (named c.args.self.now.properties) (object (members_view c.in-Some.members.now.entries)) (path_at c.args.trail.now))
    (walks_before (λ u. of_names (string_bytes c.args.self.now.second ∷ []) (subject_data c.args.node) c.args.self.now.required_location (path_at c.args.trail.now))
    (walks_alone (only_same c.args.ctx.now) (λ u. c.in_err-report_if_missing-in-Some.ensures)))))

pub returns-in_err-report_if_missing-in-Some-2 : goal.returns-in_err-report_if_missing-in-Some-2
returns-in_err-report_if_missing-in-Some-2 g c =
    walks_same (λ u so. two_then_members (λ v. of_properties g.N.Means.means g.N.Reports.first g.N.Reports.report u (named c.args.self.now.properties) v (path_at c.args.trail.now)) (path_at c.args.trail.now) c.as_str.ensures.value c.as_str-in-Some.ensures.value refl
    (object_is (subject_data c.args.node) (members_view c.in-Some.members.now.entries) c.in-Some.ensures))
    (walks_left c.from_residual-in_err-report_if_missing-in-Some-2.ensures.0
    (walks_before (λ u. of_properties g.N.Means.means g.N.Reports.first g.N.Reports.report u (named c.args.self.now.properties) (object (members_view c.in-Some.members.now.entries)) (path_at c.args.trail.now))
    (walks_after (λ u so. c.in_ok-report_if_missing-in-Some.ensures.so) (only_same c.args.ctx.now)
    (walks_alone (only_same c.args.ctx.now) (λ u. c.in_err-report_if_missing-in-Some-2.ensures)))))

pub returns-in_ok-report_if_missing-in-Some-2 : goal.returns-in_ok-report_if_missing-in-Some-2
returns-in_ok-report_if_missing-in-Some-2 g c =
    walks_same (λ u so. two_then_members (λ v. of_properties g.N.Means.means g.N.Reports.first g.N.Reports.report u (named c.args.self.now.properties) v (path_at c.args.trail.now)) (path_at c.args.trail.now) c.as_str.ensures.value c.as_str-in-Some.ensures.value refl
    (object_is (subject_data c.args.node) (members_view c.in-Some.members.now.entries) c.in-Some.ensures))
    (walks_after (λ u so. goes_after c.in_ok-report_if_missing-in-Some.ensures.so c.in_ok-report_if_missing-in-Some-2.ensures.so) (only_same c.args.ctx.now)
    (walks_same (λ u so i. of_properties g.N.Means.means g.N.Reports.first g.N.Reports.report u (c.entries.ensures i) (object (members_view c.in-Some.members.now.entries)) (path_at c.args.trail.now)) c.walk_members.ensures))

pub returns-in-None : goal.returns-in-None
returns-in-None g c = walks_past (only_same c.args.ctx.now) (λ u so i. after
    (other_lacks_nothing (two_texts c.args.self.now.first c.args.self.now.second) _ c.args.self.now.required_location (path_at c.args.trail.now) c.in-None.ensures i)
    (other_unasked g.N.Means.means g.N.Reports.first g.N.Reports.report u (named c.args.self.now.properties) (path_at c.args.trail.now) _ c.in-None.ensures i))
