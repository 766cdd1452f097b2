use Rattle.std.proofs.Common.{sym, ap, ◌∙◌, arith, []}
use Rattle.std.proofs.lemmas.List.Quantifiers.{position-Some}
use Rattle.olk_tree.specs.Sorted.{name_of, names_of}
use Rattle.olk_tree.proofs.Places.{as_many_names, equal_at, equal_here, seen_at}
use Rattle.olk_tree.proofs.names.stands_at.Goals as goal

pub returns-then-place-names : goal.returns-then-place-names
returns-then-place-names c =
    let es = c.args.names.now in
    let ks = names_of es in
    let n = c.args.name.now in
    let inside = c.if-place-names.true in (
      λ same. sym (equal_here ks n c.requires c.args.place (omega (arith, as_many_names es, inside))
          (equal_at es c.args.place c.index-names-place.result _ n (c.as_str.ensures ∙ ap name_of c.index-names-place.is) (omega (arith, inside)) (sym same ∙ c.is_same_text.ensures))),
      λ at. c.is_same_text.ensures ∙ seen_at es c.args.place c.index-names-place.result _ n (c.as_str.ensures ∙ ap name_of c.index-names-place.is) (omega (arith, inside))
          ∙ (position-Some _ ks c.args.place [] at).1,
    )
