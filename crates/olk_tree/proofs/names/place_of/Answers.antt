use Rattle.std.proofs.Common.{rules}
use Rattle.std.proofs.lemmas.Fn.{always_returns_same}
use Rattle.std.specs.Ordering.{nat_cmp}
use Rattle.std.specs.Cmp.Lexicographic.{slice_cmp}
use Rattle.olk_tree.specs.Sorted.{name_of}
use Rattle.olk_tree.proofs.Places.{searched}
use Rattle.olk_tree.proofs.names.place_of.Goals as goal

pub returns : goal.returns
returns c =
    let facts = c.binary_search_by.ensures in
    let by_name = facts.position (λ k. slice_cmp nat_cmp (name_of k) c.args.name.now) (always_returns_same _ _ _ (λ a r w called. search rules)) in
    searched c.args.names.now c.args.name.now c.requires c.binary_search_by.result facts.bound by_name
