use Rattle.std.proofs.Common.{◌<◌, sym, ◌∙◌, arith, length, ap}
use Rattle.olk_tree.specs.Sorted.{name_of, names_of}
use Rattle.olk_tree.proofs.Heads.{short_stands}
use Rattle.olk_tree.proofs.Places.{as_many_names, text_at, equal_at, equal_here}
use Rattle.olk_tree.proofs.names.stands_with_head.Goals as goal

pub returns-then-count-le8 : goal.returns-then-count-le8
returns-then-count-le8 c =
    let es = c.args.names.now in
    let here = text_at es c.args.place c.index-names-place.result _ (c.as_str-found.ensures ∙ ap name_of c.index-names-place.is) c.requires.inside in
    let inside : c.args.place < length (names_of es) = omega (arith, as_many_names es, c.requires.inside) in
    λ few. equal_here _ c.args.name.now c.requires.ascend c.args.place inside
    (short_stands es c.args.name.now c.args.place inside c.utf8.name
    (ap length (sym here) ∙ c.if-found-count.false ∙ c.as_bytes-count.ensures.len) (omega (arith, c.as_bytes-count.ensures.len)) c.requires.head)

pub returns-else-count-le8 : goal.returns-else-count-le8
returns-else-count-le8 c =
    let es = c.args.names.now in
    λ same. equal_here _ c.args.name.now c.requires.ascend c.args.place (omega (arith, as_many_names es, c.requires.inside))
    (equal_at es c.args.place c.index-names-place.result _ c.args.name.now (c.as_str-found.ensures ∙ ap name_of c.index-names-place.is) c.requires.inside (sym same ∙ c.eq.ensures))
