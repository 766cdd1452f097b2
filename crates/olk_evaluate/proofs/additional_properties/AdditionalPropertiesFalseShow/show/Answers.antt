use Rattle.serde_json.specs.View.{members_view}
use Rattle.olk_base.specs.Nodes.{subject_data}
use Rattle.olk_evaluate.proofs.Additional.{false_shown, other_false_shown}
use Rattle.olk_evaluate.proofs.Shows.{kept_same, shows_by}
use Rattle.olk_evaluate.proofs.additional_properties.AdditionalPropertiesFalseShow.show.Goals as goal

pub returns-in-Some : goal.returns-in-Some
returns-in-Some c = shows_by c.add_first.ensures kept_same (λ u so _ told. false_shown u (subject_data c.args.node) c.args.self.now.location c.args._ctx.now.path c.requires
    (members_view c.in-Some.members.now.entries) c.in-Some.ensures (told (subject_data c.args.node) c.args.self.now.location c.args._ctx.now.path) c.law_of_names.ensures)

pub returns-in-None : goal.returns-in-None
returns-in-None c = record {
  shown = λ u so. other_false_shown u (subject_data c.args.node) c.args.self.now.location c.args._ctx.now.path c.requires c.in-None.ensures;
  kept = kept_same;
}
