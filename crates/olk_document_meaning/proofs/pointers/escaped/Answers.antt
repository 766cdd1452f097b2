use Rattle.std.proofs.Common.{◌≡◌, ◌∷◌, arith}
use Rattle.std.proofs.lemmas.Str.Pattern.{strip_prefix_char}
use Rattle.serde_json.specs.Find.{unescape}
use Rattle.olk_document_meaning.proofs.Escapes.{open_tilde}
use Rattle.olk_document_meaning.proofs.pointers.escaped.Goals as goal

pub returns-in-Some-clause-value : goal.returns-in-Some-clause-value
unfolding unescape
returns-in-Some-clause-value c =
    let behind : c.args.behind.now ≡ 48 ∷ c.in-Some.more.now = rw c.in-Some.is at (strip_prefix_char 48 c.args.behind.now c.strip_prefix.result c.strip_prefix.ensures.cases (omega arith)) in
    rw behind

pub returns-in-Some-strip_prefix-clause-value : goal.returns-in-Some-strip_prefix-clause-value
unfolding unescape
returns-in-Some-strip_prefix-clause-value c =
    let behind : c.args.behind.now ≡ 49 ∷ c.in-Some-strip_prefix.more.now = rw c.in-Some-strip_prefix.is at (strip_prefix_char 49 c.args.behind.now c.strip_prefix-in_default.result c.strip_prefix-in_default.ensures.cases (omega arith)) in
    rw behind

pub returns-in_default-strip_prefix-clause-value : goal.returns-in_default-strip_prefix-clause-value
returns-in_default-strip_prefix-clause-value c =
    let behind = c.args.behind.now in
    open_tilde behind
    (rw c.in_default.is at (strip_prefix_char 48 behind c.strip_prefix.result c.strip_prefix.ensures.cases (omega arith)))
    (rw c.in_default-strip_prefix.is at (strip_prefix_char 49 behind c.strip_prefix-in_default.result c.strip_prefix-in_default.ensures.cases (omega arith)))
