use Rattle.std.proofs.Common.{ap, subst, ◌∙◌, string_bytes}
use Rattle.olk_base.specs.Lawful.{IsOneOf}
use Rattle.olk_base.specs.Nodes.{subject_data}
use Rattle.olk_spec.specs.Faults.{fault, Leaf}
use Rattle.olk_reports.specs.Paths.{path_at}
use Rattle.olk_reports.proofs.Errors.{kind_of_leaf}
use Rattle.olk_errors.proofs.Own.{leaf_error}
use Rattle.olk_errors.proofs.Sinks.{ends_nowhere, ends_wanted}
use Rattle.olk_errors.proofs.node.report_one_text.Goals as goal

pub returns-in_err-text : goal.returns-in_err-text
returns-in_err-text g c = ends_nowhere c.from_residual.ensures.0

pub returns-in-Some : goal.returns-in-Some
returns-in-Some g c = let told = kind_of_leaf c.keyword-keyword.result c.in-Some.text ∙ ap (λ k. Leaf k (string_bytes c.in-Some.text)) c.keyword-keyword.ensures in
    ends_wanted c.requires (leaf_error (g.K.Leaf.keyword_of c.args.leaf.now) (subject_data c.args.node) c.args.location.now (path_at c.args.trail.now)
    (g.K.Leaf.finds c.args.leaf.now (subject_data c.args.node)) (string_bytes c.in-Some.text)
    (subst (IsOneOf (g.K.Leaf.finds c.args.leaf.now (subject_data c.args.node))) c.in-Some.is (subst (λ d. IsOneOf (g.K.Leaf.finds c.args.leaf.now d) c.in_ok-text.field-0) c.node.ensures c.in_ok-text.ensures)) _
    (λ i. fault (told i) (subject_data c.args.node) (path_at c.args.trail.now) (c.as_str.ensures i))) c.report.ensures
