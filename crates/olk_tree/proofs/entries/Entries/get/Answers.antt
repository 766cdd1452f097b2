use Rattle.std.proofs.Common.{[], sym, ap, ◌∙◌, arith}
use Rattle.std.proofs.lemmas.List.Quantifiers.{position-Some}
use Rattle.olk_spec.specs.Names.{lookup_name}
use Rattle.olk_tree.specs.Sorted.{names_of}
use Rattle.olk_tree.proofs.Lookups.{node_here, zip_none, key_read}
use Rattle.olk_tree.proofs.Places.{as_many_names, text_at}
use Rattle.olk_tree.proofs.entries.Entries.get.Goals as goal

pub returns-in-Ok-clause-key : goal.returns-in-Ok-clause-key
returns-in-Ok-clause-key g c =
    text_at c.self.inside.names.now c.in-Ok.place c.index-self-place.result c.as_str.result.now c.as_str.ensures
    (omega (arith, as_many_names c.self.inside.names.now, (position-Some _ (names_of c.self.inside.names.now) c.in-Ok.place [] (sym c.in-Ok.ensures)).0))
    ∙ key_read (names_of c.self.inside.names.now) c.args.name.now c.in-Ok.place c.in-Ok.ensures

pub returns-in-Ok-clause-node : goal.returns-in-Ok-clause-node
returns-in-Ok-clause-node g c =
    node_here (names_of c.self.inside.names.now) c.self.inside.nodes.now c.args.name.now c.in-Ok.place c.index-self-place-in-Ok.result c.in-Ok.ensures
    c.self.invariant.within
    ∙ ap (lookup_name c.args.name.now) c.self.view_is

pub returns-in-Err-clause-node : goal.returns-in-Err-clause-node
returns-in-Err-clause-node g c =
    zip_none (names_of c.self.inside.names.now) c.self.inside.nodes.now c.args.name.now c.in-Err.ensures ∙ ap (lookup_name c.args.name.now) c.self.view_is
