use Rattle.std.proofs.Common.{◌∙◌, ap, arith}
use Rattle.std.proofs.lemmas.Result.{IfOk-weaker}
use Rattle.std.proofs.lemmas.Str.Pattern.{strip_prefix_char}
use Rattle.olk_document_build.proofs.Rounds.{behind_hash}
use Rattle.olk_document_build.proofs.document.location_of.Goals as goal

pub returns : goal.returns
returns c =
    let text = c.args.text.now in
    IfOk-weaker c.of_pointer.result _ _ (λ l e rest q. e ∙ ap (λ p. p.now) c.unwrap_or-pointer.ensures
    ∙ behind_hash c.strip_prefix.result _ text (strip_prefix_char 35 text c.strip_prefix.result c.strip_prefix.ensures.cases (omega arith)) rest q) c.of_pointer.ensures
