use Rattle.std.proofs.Common.{sym, ap, ◌∙◌}
use Rattle.olk_base.specs.Kit.{kit}
use Rattle.olk_tree.specs.Properties.{properties_mean}
use Rattle.olk_tree.specs.Validators.{answers_of, validator_means}
use Rattle.olk_check.proofs.node.declared_names.Goals as goal

pub returns-in-SmallProperties : goal.returns-in-SmallProperties
unfolding answers_of
returns-in-SmallProperties g c v =
    ap (λ k. validator_means (kit g.K.Leaf g.R.RegexEngine) g.N.Means.means k v) c.in-SmallProperties.is
    ∙ ap (λ es. properties_mean g.N.Means.means es v) (sym c.as_map.ensures)

pub returns-in-BigProperties : goal.returns-in-BigProperties
unfolding answers_of
returns-in-BigProperties g c v =
    ap (λ k. validator_means (kit g.K.Leaf g.R.RegexEngine) g.N.Means.means k v) c.in-BigProperties.is
    ∙ ap (λ es. properties_mean g.N.Means.means es v) (sym c.as_map-in-BigProperties.ensures)
