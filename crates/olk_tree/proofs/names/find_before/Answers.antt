use Rattle.std.proofs.Common.{◌-◌, ap, arith, ◌∙◌, sym}
use Rattle.std.specs.Ordering.{nat_cmp}
use Rattle.std.specs.Cmp.Lexicographic.{slice_cmp}
use Rattle.olk_tree.specs.Sorted.{name_of}
use Rattle.olk_tree.proofs.Places.{as_many_names, text_at, parted_none, place_told}
use Rattle.olk_tree.proofs.names.find_before.Goals as goal

pub returns-in-Less : goal.returns-in-Less
returns-in-Less c =
    let before = text_at c.args.names.now (c.args.place - 1) c.index-names-place.result c.as_str.result.now (c.as_str.ensures ∙ ap name_of c.index-names-place.is) (omega arith) in
    parted_none _ c.args.name.now c.requires.ascend (omega arith) (omega (arith, as_many_names c.args.names.now, c.requires.inside))
    (ap (λ k. slice_cmp nat_cmp k c.args.name.now) (sym before) ∙ sym c.cmp.ensures ∙ c.in-Less.is) c.requires.greater

pub returns : goal.returns
returns c = place_told _ c.args.name.now c.requires.ascend c.place_of.result c.place_of.ensures
