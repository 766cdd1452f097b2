use Rattle.std.proofs.Common.{◌≡◌, true, refl, rules}
use Rattle.serde_json.specs.View.{items_view}
use Rattle.olk_vocabulary.specs.Keywords.{is_short}
use Rattle.olk_vocabulary.proofs.Lists.{kinds_made, kinds_refused}
use Rattle.olk_vocabulary.proofs.maker.types_leaf.Goals as goal

pub returns-in-Some : goal.returns-in-Some
returns-in-Some c =
    let items = c.args.items.now.items in
    let few : is_short (items_view items) ≡ true = search rules in
    let fits = rw c.in-Some.is at c.in_ok-kinds.ensures in
    let made = kinds_made items c.in-Some.kinds.items few fits.0 fits.1 in
    (made.0, refl, made.1)

pub returns-in-None : goal.returns-in-None
returns-in-None c = kinds_refused c.args.items.now.items (rw c.in-None.is at c.in_ok-kinds.ensures)
