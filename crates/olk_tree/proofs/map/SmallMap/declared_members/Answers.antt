use Rattle.std.proofs.Common.{ap, ◌∙◌}
use Rattle.serde_json.specs.View.{members_view}
use Rattle.olk_spec.specs.Schemas.{listed}
use Rattle.olk_tree.specs.Visited.{members_declared, names_met}
use Rattle.olk_tree.proofs.map.SmallMap.declared_members.Goals as goal

pub returns-clause-by_members : goal.returns-clause-by_members
returns-clause-by_members g c = c.of.ensures.by_members ∙ ap (λ es. members_declared es (listed (members_view c.args.members.now.entries))) c.entries.ensures

pub returns-clause-by_names : goal.returns-clause-by_names
returns-clause-by_names g c = c.of.ensures.by_names ∙ ap (λ es. names_met es (listed (members_view c.args.members.now.entries))) c.entries.ensures
