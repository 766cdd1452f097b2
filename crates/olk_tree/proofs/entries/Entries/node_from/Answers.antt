use Rattle.std.proofs.Common.{sym, ap, ◌∙◌}
use Rattle.olk_spec.specs.Names.{lookup_name}
use Rattle.olk_tree.specs.Sorted.{names_of}
use Rattle.olk_tree.proofs.Lookups.{node_here, zip_none}
use Rattle.olk_tree.proofs.entries.Entries.node_from.Goals as goal

pub returns-then-stands_at : goal.returns-then-stands_at
returns-then-stands_at g c =
    node_here (names_of c.self.inside.names.now) c.self.inside.nodes.now c.args.name.now c.args.hint c.index-self-hint.result (sym (c.stands_at.ensures.0 c.if-stands_at.true))
    c.self.invariant.within
    ∙ ap (lookup_name c.args.name.now) c.self.view_is

pub returns-in-Ok : goal.returns-in-Ok
returns-in-Ok g c =
    node_here (names_of c.self.inside.names.now) c.self.inside.nodes.now c.args.name.now c.in-Ok.place c.index-self-place.result c.in-Ok.ensures
    c.self.invariant.within
    ∙ ap (lookup_name c.args.name.now) c.self.view_is

pub returns-in-Err : goal.returns-in-Err
returns-in-Err g c = zip_none (names_of c.self.inside.names.now) c.self.inside.nodes.now c.args.name.now c.in-Err.ensures ∙ ap (lookup_name c.args.name.now) c.self.view_is
