-- Lemmas on the answers to requests.
use Rattle.std.proofs.Common.{◌≡◌, ◌<◌, false, List, [], ◌∷◌, sym, subst, arith}
use Rattle.std.specs.List.{Contains}
use Rattle.olk_spec.specs.Names.{Text}
use Rattle.olk_spec.specs.Faults.{Fault}
use Rattle.olk_spec.specs.Malformed.{malformations}
use Rattle.olk_spec.specs.Bench.{bench}
use Rattle.olk_spec.specs.Texts.{prints_fraction}
use Rattle.olk_spec.proofs.Walks.{neither}
use Rattle.olk_answers.specs.Refusals.{fault_refusal}
use Rattle.olk_answers.specs.Texts.{json_text}
use Rattle.olk_answers.proofs.Fractions.{malformation_prints_no_fraction}
use Rattle.olk_replies.specs.Replies.{has_fraction}
use Rattle.olk_cli.specs.Answers.{IsReplyBy, IsReplyWhere, IsReply}
use Rattle.olk_cli.specs.Requests.{Asked, question}

-- where the schema is not malformed
pub reply_is_by : (r : Asked) (answer : Text) → malformations bench r.schema ≡ [] → IsReplyBy r.ask r answer → IsReply r answer
unfolding IsReply
reply_is_by r answer clean h = subst (λ fs. IsReplyWhere fs r answer) (sym clean) h

-- where it is
refused_where : (fs : List Fault) (r : Asked) (f : Fault) (answer : Text) → Contains fs f → answer ≡ json_text (fault_refusal f) → IsReplyWhere fs r answer
refused_where [] r f answer c h = let none : c.0 < 0 = c.1 in absurd (omega arith)
refused_where (g ∷ fs) r f answer c h = (f, c, h)

pub reply_is_refusal : (r : Asked) (f : Fault) (answer : Text) → has_fraction (question r) ≡ false → Contains (malformations bench r.schema) f
    → (prints_fraction f ≡ false → answer ≡ json_text (fault_refusal f)) → IsReply r answer
unfolding IsReply
reply_is_refusal r f answer plain c h =
    refused_where (malformations bench r.schema) r f answer c (h (malformation_prints_no_fraction bench r.schema (neither _ _ plain).0 f c))
