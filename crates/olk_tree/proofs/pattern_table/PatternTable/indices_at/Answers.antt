use Rattle.std.proofs.Common.{◌++◌, [], ◌∷◌, ap, ◌∙◌}
use Rattle.olk_tree.specs.Tables.{table_says}
use Rattle.olk_tree.proofs.Tables.{index_told, index_untold}
use Rattle.olk_tree.proofs.pattern_table.PatternTable.indices_at.Goals as goal
use Rattle.olk_tree.proofs.pattern_table.PatternTable.indices_at.Goals.{in-Some+in_ok-push, in_default}

pub loop-index-preserved : goal.loop-index-preserved
loop-index-preserved c =
    let says = table_says c.args.self.now c.args.place in
    elim c.match-index_at.branch [
      | in-Some+in_ok-push w ↦
          ap (λ v. v.items) w.indices-is ∙ w.in_ok-push.ensures.items ∙ ap (λ l. l ++ w.in-Some.entry ∷ []) c.loop-index.invariant
          ∙ index_told says c.loop-index.index w.in-Some.entry w.in-Some.ensures
      | in_default w ↦ ap (λ v. v.items) w.indices-is ∙ c.loop-index.invariant ∙ index_untold says c.loop-index.index w.in_default.ensures
    ]
