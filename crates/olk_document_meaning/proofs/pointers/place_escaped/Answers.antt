use Rattle.std.proofs.Common.{[], option_and_then, sym, ap, ◌∙◌, arith, rules}
use Rattle.std.proofs.lemmas.Str.Pattern.{strip_prefix_char, split_parts}
use Rattle.serde_json.specs.Find.{walk}
use Rattle.serde_json.specs.View.{view}
use Rattle.serde_json.proofs.Paths.{walk_part, walk_last, no_slash}
use Rattle.olk_document_meaning.proofs.pointers.place_escaped.Goals as goal

pub returns-in_default : goal.returns-in_default
returns-in_default c =
    let pointer = c.args.pointer.now in
    let other = rw c.in_default.is at (strip_prefix_char 47 pointer c.strip_prefix.result c.strip_prefix.ensures.cases (omega arith)) in
    sym (no_slash pointer (view c.args.document.now) (grind arith) other)

pub step-requires : goal.step-requires
step-requires c = (rw c.in-Some-split_once.is at (split_parts 47 c.loop-segment.rest.now c.split_once.result c.split_once.ensures.cases (omega arith))).1

pub returns-in-None : goal.returns-in-None
returns-in-None c =
    let l = c.loop-segment in
    let cut = rw c.in-Some-split_once.is at (split_parts 47 l.rest.now c.split_once.result c.split_once.ensures.cases (omega arith)) in
    let turn = l.invariant.0 ∙ ap (λ s. walk [] s (view l.place.now)) cut.0 ∙ walk_part _ _ (view l.place.now) cut.1 in
    let none = rw c.in-None.is at c.in_ok-below.ensures in
    sym (turn ∙ ap (option_and_then (walk [] c.in-Some-split_once.more.now)) (sym none))

pub loop-segment-preserved : goal.loop-segment-preserved
loop-segment-preserved c =
    let l = c.loop-segment in
    let cut = rw c.in-Some-split_once.is at (split_parts 47 l.rest.now c.split_once.result c.split_once.ensures.cases (omega arith)) in
    let turn = l.invariant.0 ∙ ap (λ s. walk [] s (view l.place.now)) cut.0 ∙ walk_part _ _ (view l.place.now) cut.1 in
    let found = rw c.in-Some-2.is at c.in_ok-below.ensures in
    (turn ∙ ap (option_and_then (walk [] c.in-Some-split_once.more.now)) (sym found), search rules)

pub step-requires-2 : goal.step-requires-2
step-requires-2 c = rw c.in_default-split_once.is at (split_parts 47 c.loop-segment.rest.now c.split_once.result c.split_once.ensures.cases (omega arith))

pub returns : goal.returns
returns c =
    let l = c.loop-segment in
    let none = rw c.in_default-split_once.is at (split_parts 47 l.rest.now c.split_once.result c.split_once.ensures.cases (omega arith)) in
    let all = l.invariant.0 ∙ walk_last l.rest.now (view l.place.now) none in
    rw all c.step-2.ensures
