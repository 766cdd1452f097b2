use Rattle.std.proofs.Common.{◌∙◌, arith}
use Rattle.std.proofs.lemmas.List.Elements.{All-push}
use Rattle.olk_places.specs.Told.{IsOf}
use Rattle.olk_places.proofs.InOrder.{told_next, is_of}
use Rattle.olk_places.proofs.told.told_each.Goals as goal

pub loop-error-preserved : goal.loop-error-preserved
loop-error-preserved c =
    let errors = c.args.errors.now in
    let e = c.error-item.result in
    let i = c.loop-error.error-index in
    let t = c.in_ok-told_error.field-0 in
    let before = c.loop-error.told.items in
    let low = c.loop-error-test.true in
    let at = c.in_ok-told_error.ensures.0 ∙ c.len-index.ensures ∙ c.loop-error.invariant.0 in
    let tells = c.in_ok-told_error.ensures.1 in
    let of = is_of errors i e t low c.error-item.is at tells in
    rw c.in_ok-push.ensures.items (
      omega (arith, c.in_ok-push.ensures.len, c.loop-error.invariant.0),
      (λ none. told_next errors i e before t low c.error-item.is none tells (c.loop-error.invariant.1 none)),
      All-push (IsOf errors) before t c.loop-error.invariant.2 of,
    )
