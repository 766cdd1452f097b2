use Rattle.std.proofs.Common.{◌∷◌, ◌++◌, ap, ◌∙◌, IfOk, decimal, Result, Ok, Err}
use Rattle.olk_reports.specs.Paths.{path_at}
use Rattle.olk_documents.proofs.Segments.{item_below}
use Rattle.olk_documents.proofs.errors.path_of_item.Goals as goal

map_ok : {A E : Type 0} {P Q : A → Type 0} (r : Result A E) → ((a : A) → P a → Q a) → IfOk r P → IfOk r Q
map_ok (Ok a) h p = h a p
map_ok (Err e) h p = p

pub returns : goal.returns
returns c =
    let below = item_below (path_at c.args.trail.now) c.args.index c.ranges.index.fits in
    let place = c.as_str-place.ensures ∙ c.in_ok-text.ensures in
    map_ok c.format.result (λ t h. h ∙ ap (λ p. p ++ 47 ∷ decimal c.args.index) place ∙ below) c.format.ensures.ok
