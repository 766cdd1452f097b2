use Rattle.std.proofs.Common.{◌≡◌, true, bytes_eq, rules, sym, ap, ◌∙◌}
use Rattle.std.specs.Cmp.Lexicographic.{bytes_decides}
use Rattle.olk_base.proofs.Ends.{starts_decide}
use Rattle.olk_base.proofs.equality.ends_are_equal.Goals as goal

pub returns-in-Some-Some-2 : goal.returns-in-Some-Some-2
returns-in-Some-Some-2 g c =
    let ends_equal : bytes_eq c.in-Some-Some.end.now c.in-Some-Some.its_end.now ≡ true = search rules in
    let ends = sym c.in-Some-Some.ensures.cases.1.same ∙ (bytes_decides _ _).0 ends_equal ∙ c.in-Some-Some.ensures'.cases.1.same in
    let starts = ap (λ t. bytes_eq t c.in-Some-Some-2.its_start.now) c.in-Some-Some-2.ensures.cases.same ∙ ap (bytes_eq _) c.in-Some-Some-2.ensures'.cases.same in
    starts_decide c.args.one.now c.args.other.now g.row.N c.requires.same c.requires.whole c.requires.covered ends c.eq.result (c.eq.ensures ∙ starts)
