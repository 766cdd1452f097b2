use Rattle.olk_base.specs.Nodes.{subject_data}
use Rattle.olk_evaluate.specs.declared.sides.Beside.TheVariants as beside
use Rattle.olk_evaluate.proofs.Additional.{shows_lent}
use Rattle.olk_evaluate.proofs.additional_properties.AdditionalPropertiesWithPatternsNotEmptyShow.show.Goals as goal

pub returns : goal.returns
returns g c = shows_lent g.R.RegexEngine.answers g.R.RegexEngine.costs g.N.Show.tree g.N.Means.means beside.PropertiesAndPatterns (subject_data c.args.node) c.args.self.now.location c.show_sides.new.outcome c.sides.ensures c.show_sides.ensures
