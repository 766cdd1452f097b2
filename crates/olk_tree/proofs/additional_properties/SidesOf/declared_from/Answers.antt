use Rattle.std.proofs.Common.{option_copied, ap, sym, ◌∙◌}
use Rattle.olk_spec.specs.Names.{lookup_name}
use Rattle.olk_tree.specs.Additional.{mapped_places}
use Rattle.olk_tree.specs.Maps.{placed_entries}
use Rattle.olk_tree.proofs.additional_properties.SidesOf.declared_from.Goals as goal

pub returns-in-Some : goal.returns-in-Some
returns-in-Some g c =
    c.placed_from.ensures ∙ ap (λ es. lookup_name c.args.name.now (placed_entries es)) c.entries.ensures
    ∙ ap (λ o. lookup_name c.args.name.now (mapped_places (option_copied o))) (sym c.in-Some.is)
