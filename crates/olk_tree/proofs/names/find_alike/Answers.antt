use Rattle.std.proofs.Common.{◌<◌, length, ap, arith, ◌∙◌, sym}
use Rattle.std.specs.Ordering.{nat_cmp}
use Rattle.std.specs.Cmp.Lexicographic.{slice_cmp}
use Rattle.olk_tree.specs.Sorted.{name_of, names_of}
use Rattle.olk_tree.proofs.Places.{as_many_names, text_at, stands_some, place_told}
use Rattle.olk_tree.proofs.names.find_alike.Goals as goal

pub returns-in-Equal : goal.returns-in-Equal
returns-in-Equal c =
    let inside : c.loop-place.place < length c.args.names.now = omega (arith, c.loop-place-test.true) in
    let here = text_at c.args.names.now c.loop-place.place c.index-names-place.result c.as_str.result.now (c.as_str.ensures ∙ ap name_of c.index-names-place.is) inside in
    stands_some (names_of c.args.names.now) c.args.name.now c.requires record {
      inside = omega (arith, as_many_names c.args.names.now, inside);
      here = ap (λ k. slice_cmp nat_cmp k c.args.name.now) (sym here) ∙ sym c.cmp.ensures ∙ c.in-Equal.is;
    }

pub find_before-requires-clause-greater : goal.find_before-requires-clause-greater
find_before-requires-clause-greater c =
    let inside : c.loop-place.place < length c.args.names.now = omega (arith, c.loop-place-test.true) in
    let here = text_at c.args.names.now c.loop-place.place c.index-names-place.result c.as_str.result.now (c.as_str.ensures ∙ ap name_of c.index-names-place.is) inside in
    ap (λ k. slice_cmp nat_cmp k c.args.name.now) (sym here) ∙ sym c.cmp.ensures ∙ c.in-Greater.is

pub returns : goal.returns
returns c = place_told _ c.args.name.now c.requires c.place_of.result c.place_of.ensures
