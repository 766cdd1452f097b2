use Rattle.std.proofs.Common.{◌≤◌, length, subst, arith}
use Rattle.std.specs.List.{zip}
use Rattle.olk_tree.specs.Ascending.{Ascend}
use Rattle.olk_tree.specs.Maps.{keys_in}
use Rattle.olk_tree.specs.Sorted.{names_of}
use Rattle.olk_tree.proofs.Places.{as_many_names}
use Rattle.olk_tree.proofs.Walked.{keys_ascend, no_more_than_names}
use Rattle.olk_tree.proofs.entries.Entries.len.Goals as goal

pub returns-clause-at_least : goal.returns-clause-at_least
returns-clause-at_least g c =
    let names = c.self.inside.names.now in
    subst (λ es. length es ≤ length names) c.self.view_is
    (let few : length (zip (names_of names) c.self.inside.nodes.now) ≤ length (names_of names) = no_more_than_names (names_of names) c.self.inside.nodes.now in omega (arith, as_many_names names, few))

pub returns-clause-ordered : goal.returns-clause-ordered
returns-clause-ordered g c = subst (λ es. Ascend (keys_in es)) c.self.view_is (keys_ascend (names_of c.self.inside.names.now) c.self.inside.nodes.now c.self.invariant.ascend)
