use Rattle.std.proofs.Common.{◌≡◌, ◌++◌, ◌&&◌, map, sym, ap, ◌∙◌}
use Rattle.std.proofs.lemmas.List.{take-append-drop}
use Rattle.serde_json.specs.View.{view}
use Rattle.olk_vocabulary.specs.Unique.{are_unique}
use Rattle.olk_vocabulary.proofs.Uniques.{next_block}
use Rattle.olk_vocabulary.proofs.unique.are_unique.Goals as goal

pub returns-then-not-is_apart : goal.returns-then-not-is_apart
returns-then-not-is_apart c =
    let rest = c.loop-rest.rest.now in
    let block = c.split_at.result.0.now in
    let behind = c.split_at.result.1.now in
    let whole : rest ≡ block ++ behind = sym (take-append-drop 4096 rest) ∙ (λ i. sym c.split_at.ensures.front i ++ sym c.split_at.ensures.back i) in
    let left = next_block rest block behind c.is_apart.result whole c.is_apart.ensures in
    sym (c.loop-rest.invariant ∙ left ∙ ap (λ b. b && are_unique (map view behind)) c.if-not-is_apart.true)

pub loop-rest-preserved : goal.loop-rest-preserved
loop-rest-preserved c =
    let rest = c.loop-rest.rest.now in
    let block = c.split_at.result.0.now in
    let behind = c.split_at.result.1.now in
    let whole : rest ≡ block ++ behind = sym (take-append-drop 4096 rest) ∙ (λ i. sym c.split_at.ensures.front i ++ sym c.split_at.ensures.back i) in
    let left = next_block rest block behind c.is_apart.result whole c.is_apart.ensures in
    c.loop-rest.invariant ∙ left ∙ ap (λ b. b && are_unique (map view behind)) c.if-not-is_apart.false
