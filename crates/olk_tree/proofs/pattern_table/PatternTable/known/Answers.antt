use Rattle.std.proofs.Common.{option_copied, sym, ap, ◌∙◌}
use Rattle.std.specs.Option.{option_map_or}
use Rattle.olk_spec.specs.World.{unfinished}
use Rattle.olk_tree.specs.Tables.{row_says}
use Rattle.olk_tree.proofs.Lookups.{read_in}
use Rattle.olk_tree.proofs.pattern_table.PatternTable.known.Goals as goal

pub returns-in-Some : goal.returns-in-Some
returns-in-Some c =
    c.known.ensures
    ∙ ap (λ o. option_map_or (λ r. row_says r c.args.index) o unfinished)
    (sym (ap option_copied c.in-Some.is) ∙ read_in c.args.self.now.rows c.deref.result.now c.args.place c.get.result (c.deref.ensures.value ∙ ap (λ t. t.rows) c.self.view_is) c.get.ensures.lookup.1 c.get.ensures.lookup.3)

pub returns-in-None : goal.returns-in-None
returns-in-None c =
    ap (λ o. option_map_or (λ r. row_says r c.args.index) o unfinished)
    (sym (ap option_copied c.in-None.is) ∙ read_in c.args.self.now.rows c.deref.result.now c.args.place c.get.result (c.deref.ensures.value ∙ ap (λ t. t.rows) c.self.view_is) c.get.ensures.lookup.1 c.get.ensures.lookup.3)
