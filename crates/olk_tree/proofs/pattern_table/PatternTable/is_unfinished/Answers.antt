use Rattle.std.proofs.Common.{◌≡◌, ◌<◌, ◌&&◌, Bool, not, true, false, Option, Some, None, refl, sym, ap, subst, ◌∙◌, arith}
use Rattle.std.proofs.lemmas.Bool.{lt-ltb}
use Rattle.std.specs.Option.{is_some, option_map_or}
use Rattle.olk_spec.specs.World.{is_unfinished}
use Rattle.olk_tree.specs.Tables.{known_says, table_says, place_in}
use Rattle.olk_tree.proofs.pattern_table.PatternTable.is_unfinished.Goals as goal

none_told : (o : Option Bool) (b : Bool) → is_some o ≡ not b → b ≡ is_unfinished (known_says o)
none_told None false e = cc
none_told (Some true) true e = cc
none_told (Some false) true e = cc
none_told _ _ e = refl

pub returns-in-Some : goal.returns-in-Some
returns-in-Some c =
    none_told c.known.result c.is_none.result c.is_none.ensures
    ∙ ap is_unfinished c.known.ensures
    ∙ ap (λ o. option_map_or (λ p. is_unfinished (table_says c.args.self.now p c.args.index)) o false) (c.in-Some.ensures ∙ ap (λ t. place_in t c.args.name.now) c.self.view_is)
    ∙ ap (λ b. b && option_map_or (λ p. is_unfinished (table_says c.args.self.now p c.args.index)) (place_in c.args.self.now c.args.name.now) false)
    (sym (lt-ltb c.args.index c.args.self.now.patterns (subst (λ t. c.args.index < t.patterns) c.self.view_is (omega (arith, c.if-index-self.true)))))
