use Rattle.std.proofs.Common.{sym, ap, ◌∙◌}
use Rattle.olk_regexes.specs.Sizes.{size_of, bounded, repeated_size}
use Rattle.olk_regexes.specs.Syntax.{repeated}
use Rattle.olk_regexes.specs.Trees.{expr_of}
use Rattle.olk_regexes.proofs.Sizes.{repeated_sized, repeated_none, bounded_is, too_large}
use Rattle.olk_regexes.proofs.size.+measure.Goals as goal

pub returns-in-Some-measure-4 : goal.returns-in-Some-measure-4
returns-in-Some-measure-4 t c =
    let e = expr_of c.in-Repeat.part.value in
    let m = rw c.deref-else-is_never.ensures at c.measure-else-is_never.ensures in
    rw c.in-Repeat.is (c.bounded-in-Some-measure-4.ensures ∙ ap bounded (c.repeated.ensures ∙
    ap (λ s. repeated_size s c.in-Repeat.counts) (bounded_is (size_of e) c.in-Some-measure-4.size (sym c.in-Some-measure-4.is ∙ m)) ∙ sym (repeated_sized e c.in-Repeat.counts)))

pub returns-in-None-measure-4 : goal.returns-in-None-measure-4
returns-in-None-measure-4 t c =
    let e = expr_of c.in-Repeat.part.value in
    let m = rw c.deref-else-is_never.ensures at c.measure-else-is_never.ensures in
    rw c.in-Repeat.is (too_large e (repeated e c.in-Repeat.counts)
    (repeated_none e c.in-Repeat.counts (sym c.is_never.ensures ∙ c.if-is_never.false)) (sym c.in-None-measure-4.is ∙ m))
