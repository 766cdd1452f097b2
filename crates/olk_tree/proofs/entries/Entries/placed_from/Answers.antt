use Rattle.std.proofs.Common.{sym, ap, ◌∙◌}
use Rattle.olk_spec.specs.Names.{lookup_name}
use Rattle.olk_tree.specs.Maps.{placed_entries}
use Rattle.olk_tree.specs.Sorted.{names_of}
use Rattle.olk_tree.proofs.Lookups.{node_here_placed, none_placed}
use Rattle.olk_tree.proofs.entries.Entries.placed_from.Goals as goal

pub returns-then-stands_at : goal.returns-then-stands_at
returns-then-stands_at g c =
    node_here_placed (names_of c.self.inside.names.now) c.self.inside.nodes.now c.args.name.now c.args.hint c.index-self-hint.result (sym (c.stands_at.ensures.0 c.if-stands_at.true))
    c.self.invariant.within
    ∙ ap (λ es. lookup_name c.args.name.now (placed_entries es)) c.self.view_is

pub returns-in-Ok : goal.returns-in-Ok
returns-in-Ok g c =
    node_here_placed (names_of c.self.inside.names.now) c.self.inside.nodes.now c.args.name.now c.in-Ok.place c.index-self-place.result c.in-Ok.ensures
    c.self.invariant.within
    ∙ ap (λ es. lookup_name c.args.name.now (placed_entries es)) c.self.view_is

pub returns-in-Err : goal.returns-in-Err
returns-in-Err g c =
    none_placed (names_of c.self.inside.names.now) c.self.inside.nodes.now c.args.name.now c.in-Err.ensures ∙ ap (λ es. lookup_name c.args.name.now (placed_entries es)) c.self.view_is
