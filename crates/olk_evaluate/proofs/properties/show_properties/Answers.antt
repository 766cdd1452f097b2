use Rattle.serde_json.specs.View.{members_view}
use Rattle.olk_base.specs.Nodes.{subject_data}
use Rattle.olk_evaluate.proofs.Members.{alone_shown, no_member_shown}
use Rattle.olk_evaluate.proofs.Shows.{kept_same, shows_weaker}
use Rattle.olk_evaluate.proofs.properties.show_properties.Goals as goal

pub returns-in-Some : goal.returns-in-Some
returns-in-Some g c = shows_weaker c.show_declared_members.ensures (λ u so _ met P.
    alone_shown g.N.Show.tree g.N.Means.means u c.args.ctx.now.path c.args.properties P (subject_data c.args.node)
    (members_view c.in-Some.members.now.entries) c.in-Some.ensures met)

pub returns-in-None : goal.returns-in-None
returns-in-None g c = record {
  shown = λ u so P. no_member_shown g.N.Show.tree g.N.Means.means u c.args.ctx.now.path c.args.properties P
      (subject_data c.args.node) c.in-None.ensures c.requires;
  kept = kept_same;
}
