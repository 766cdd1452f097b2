use Rattle.std.proofs.Common.{◌≡◌, Some, option_copied, false, sym, ap, ◌∙◌}
use Rattle.std.specs.List.{slice_get}
use Rattle.std.specs.Option.{option_map_or}
use Rattle.olk_spec.specs.World.{unfinished}
use Rattle.olk_tree.specs.Tables.{row_says, is_blank}
use Rattle.olk_tree.proofs.Lookups.{read_in}
use Rattle.olk_tree.proofs.pattern_table.PatternTable.matches_nothing.Goals as goal

row_is : (c : goal.After-is_blank) → Some c.in-Some.row.now ≡ slice_get c.args.self.now.rows c.args.place
row_is c =
    sym (ap option_copied c.in-Some.is) ∙ read_in c.args.self.now.rows c.deref.result.now c.args.place c.get.result (c.deref.ensures.value ∙ ap (λ t. t.rows) c.self.view_is) c.get.ensures.lookup.1 c.get.ensures.lookup.3

pub returns-in-Some-clause-value : goal.returns-in-Some-clause-value
returns-in-Some-clause-value c = c.is_blank.ensures.value ∙ ap (λ o. option_map_or is_blank o false) (row_is c)

pub returns-in-Some-clause-unmatched : goal.returns-in-Some-clause-unmatched
returns-in-Some-clause-unmatched c blank i = ap (λ o. option_map_or (λ r. row_says r i) o unfinished) (sym (row_is c)) ∙ c.is_blank.ensures.unmatched blank i

pub returns-in-None-clause-value : goal.returns-in-None-clause-value
returns-in-None-clause-value c =
    ap (λ o. option_map_or is_blank o false)
    (sym (ap option_copied c.in-None.is) ∙ read_in c.args.self.now.rows c.deref.result.now c.args.place c.get.result (c.deref.ensures.value ∙ ap (λ t. t.rows) c.self.view_is) c.get.ensures.lookup.1 c.get.ensures.lookup.3)
