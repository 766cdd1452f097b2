use Rattle.std.proofs.Common.{not, refl, sym, ap, ◌∙◌, codes}
use Rattle.olk_base.specs.Nodes.{subject_data}
use Rattle.olk_spec.specs.Faults.{itself, Leaf}
use Rattle.olk_document_spec.specs.Applied.{contains_text}
use Rattle.olk_reports.proofs.Errors.{kind_of_leaf}
use Rattle.olk_check.proofs.Asked.{verdict_of}
use Rattle.olk_errors.proofs.Own.{like_at, walks_own, own_past, is_own}
use Rattle.olk_errors.proofs.Sinks.{walks_nowhere}
use Rattle.olk_documents.proofs.errors.ContainsWalk.walk.Goals as goal

pub returns-then-accepts : goal.returns-then-accepts
returns-then-accepts g c = own_past (λ u. Leaf (codes "contains") (contains_text (subject_data c.args.node))) _ c.args.self.now.location _ c.if-accepts.ensures.only
    (λ u so. sym (verdict_of c.if-accepts.ensures so)) (λ u so. ap not (sym (verdict_of c.if-accepts.ensures so)))

pub returns-in_err-text : goal.returns-in_err-text
returns-in_err-text g c = walks_nowhere c.from_residual.ensures.0 c.if-accepts.ensures.only

pub returns : goal.returns
returns g c = let text = c.in_ok-text.ensures ∙ ap contains_text c.node.ensures in
    walks_own c.if-accepts.ensures.only c.report.ensures (λ u so. let refused = sym (verdict_of c.if-accepts.ensures so) in
    is_own (Leaf (codes "contains") (contains_text (subject_data c.args.node))) _ c.args.self.now.location _
    refused (ap not refused) refl (like_at (kind_of_leaf _ _ ∙ ap (Leaf (codes "contains")) text) itself refl c.as_str.ensures))
