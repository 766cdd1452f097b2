use Rattle.std.proofs.Common.{◌&&◌, ap, sym, ◌∙◌}
use Rattle.std.specs.Prelude.{◌==◌}
use Rattle.std.specs.List.{list_all}
use Rattle.olk_tree.proofs.pattern_table.PatternBits.are_zero.Goals as goal

pub returns-then-self-eq0 : goal.returns-then-self-eq0
returns-then-self-eq0 c =
    c.are_zero.ensures ∙ ap (list_all (λ w. w == 0)) c.deref.ensures.value
    ∙ ap (λ w. (w == 0) && list_all (λ w. w == 0) c.self.inside.more.items) (sym c.if-self-eq0.true)
    ∙ ap (list_all (λ w. w == 0)) c.self.view_is
