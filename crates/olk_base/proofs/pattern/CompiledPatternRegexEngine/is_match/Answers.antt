use Rattle.std.proofs.Common.{rules, ◌≡◌, ◌∙◌, ap, cond, bytes_eq, string_bytes, Bool, true, false, refl, Ok}
use Rattle.std.specs.List.{list_any}
use Rattle.olk_spec.specs.World.{matched, unmatched}
use Rattle.olk_base.specs.Lawful.{said}
use Rattle.olk_base.proofs.Texts.{list_any_texts}
use Rattle.olk_base.proofs.pattern.CompiledPatternRegexEngine.is_match.Goals as goal

said_ok : (b : Bool) → said (Ok b) ≡ cond b matched unmatched
said_ok true = refl
said_ok false = refl

pub returns-in-Alternation-clause-answer : goal.returns-in-Alternation-clause-answer
returns-in-Alternation-clause-answer g c =
    let among =
    c.is_among.ensures ∙ ap (list_any (λ s. bytes_eq (string_bytes s) c.args.text.now)) c.deref.ensures.value
    ∙ list_any_texts (λ t. bytes_eq t c.args.text.now) c.in-Alternation.texts.items in
    rw c.in-Alternation.is (said_ok c.is_among.result ∙ ap (λ b. cond b matched unmatched) among)

pub returns-in-Regex-clause-answer : goal.returns-in-Regex-clause-answer
returns-in-Regex-clause-answer g c = search rules

pub returns-in-Regex-clause-counts : goal.returns-in-Regex-clause-counts
returns-in-Regex-clause-counts g c = search rules
