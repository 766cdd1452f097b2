use Rattle.std.proofs.Common.{subst}
use Rattle.serde_json.specs.Data.{object}
use Rattle.serde_json.specs.View.{members_view}
use Rattle.olk_base.specs.Nodes.{subject_data}
use Rattle.olk_reports.specs.Evaluations.{shown_of}
use Rattle.olk_tree.specs.Maps.{named, two_texts}
use Rattle.olk_spec.specs.Schemas.{listed}
use Rattle.olk_tree.specs.Properties.{properties_mean}
use Rattle.olk_tree.specs.Visited.{members_declared, object_of}
use Rattle.olk_evaluate.specs.Members.{HasMet, wanted_at}
use Rattle.olk_evaluate.specs.Wanted.{ShowsMore, lacking_trees, refused}
use Rattle.olk_evaluate.proofs.Members.{beside_shown, nothing_missing_shown}
use Rattle.olk_evaluate.proofs.Shows.{kept_same, shows_by, shows_err}
use Rattle.olk_evaluate.proofs.properties.SmallPropertiesWithRequired2Show.show.Goals as goal

pub returns-in_err-show_declared_members-in-Some : goal.returns-in_err-show_declared_members-in-Some
returns-in_err-show_declared_members-in-Some g c = shows_err c.from_residual.ensures.0 c.show_declared_members.ensures.kept

pub returns-in_ok-show_declared_members-in-Some : goal.returns-in_ok-show_declared_members-in-Some
returns-in_ok-show_declared_members-in-Some g c =
    let required = two_texts c.args.self.now.first c.args.self.now.second in
    let place = c.args.self.now.required_location in
    shows_by c.add_missing_child.ensures c.show_declared_members.ensures.kept (λ u so _ more.
    beside_shown g.N.Show.tree g.N.Means.means u c.args.ctx.now.path (named c.args.self.now.properties) c.args.self.now.location (subject_data c.args.node)
    (members_view c.in-Some.members.now.entries) c.in-Some.ensures (subst (λ es. HasMet (wanted_at g.N.Show.tree g.N.Means.means u c.args.ctx.now.path) (members_declared es (listed (members_view c.in-Some.members.now.entries)))
    ((properties_mean g.N.Means.means es (object_of c.in-Some.members.now.entries)).accepts u) (shown_of c.show_declared_members.new.outcome)) c.entries.ensures (c.in_ok-show_declared_members-in-Some.ensures.shown u so)) required place
    (subst (λ Q. ShowsMore (refused (lacking_trees required (subject_data c.args.node) (object (members_view c.in-Some.members.now.entries)) place Q))
    (shown_of c.show_declared_members.new.outcome) (shown_of c.add_missing_child.new.outcome)) c.show_declared_members.ensures.kept.path more))

pub returns-in-None : goal.returns-in-None
returns-in-None g c = record {
  shown = λ u so. nothing_missing_shown g.N.Show.tree g.N.Means.means u c.args.ctx.now.path (named c.args.self.now.properties) c.args.self.now.location
      (subject_data c.args.node) c.in-None.ensures c.requires (two_texts c.args.self.now.first c.args.self.now.second) c.args.self.now.required_location;
  kept = kept_same;
}
