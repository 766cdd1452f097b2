use Rattle.std.proofs.Common.{◌≡◌, ◌∷◌, ◌++◌, encode_utf8, ap, ◌∙◌, arith}
use Rattle.serde_json.specs.Find.{pointer as points_to}
use Rattle.serde_json.specs.View.{view}
use Rattle.serde_json.proofs.Paths.{walk_last}
use Rattle.olk_document_meaning.proofs.pointers.item.Goals as goal

pub returns : goal.returns
returns c =
    let segment = c.args.segment.now in
    let place = view c.args.place.now in
    let slash = c.in_ok-push.ensures.bytes ∙ ap (λ t. t ++ encode_utf8 47) c.new-pointer.ensures.bytes ∙ c.in_ok-push.ensures.ascii (omega arith) in
    let text : c.as_str.result.now ≡ 47 ∷ segment = c.as_str.ensures.value ∙ c.in_ok-push_str.ensures.bytes ∙ ap (λ t. t ++ segment) slash in
    c.pointer.ensures ∙ ap (λ t. points_to t place) text ∙ walk_last segment place c.requires
