use Rattle.std.proofs.Common.{◌≡◌, ◌∙◌, ◌++◌, ap, arith}
use Rattle.std.proofs.lemmas.Result.{IfOk-weaker, IfErr-weaker}
use Rattle.serde_json.specs.View.{view}
use Rattle.olk_base.specs.Kit.{kit, world}
use Rattle.olk_build.proofs.Spending.{exit_with}
use Rattle.olk_document_spec.specs.Documents.{reference_limit}
use Rattle.olk_document_spec.specs.Malformed.{references_read}
use Rattle.olk_document_build.specs.References.{as_texts}
use Rattle.olk_document_build.proofs.Documents.{known, known_stand, document_built, document_refused, references_refused}
use Rattle.olk_document_build.proofs.document.compile_document.Goals as goal

pub returns-in_err-targets-clause-refused : goal.returns-in_err-targets-clause-refused
returns-in_err-targets-clause-refused g c =
    let o = kit g.L.Leaf.Leaf g.M.Engine.RegexEngine in
    let D = view c.args.document.now in
    let texts : as_texts c.references_read.new.texts.items ≡ references_read o.world D = c.in_ok-references_read.ensures o.world ∙ ap (λ ts. as_texts ts ++ references_read o.world D) c.new-texts.ensures.items in
    exit_with _ _ _ c.from_residual-in_err-targets.ensures.1 (references_refused o D c.in_err-targets.field-0.0 (rw texts at c.in_err-targets.ensures.refused))

pub returns-clause-refused : goal.returns-clause-refused
returns-clause-refused g c =
    let o = kit g.L.Leaf.Leaf g.M.Engine.RegexEngine in
    let D = view c.args.document.now in
    let texts : as_texts c.references_read.new.texts.items ≡ references_read o.world D = c.in_ok-references_read.ensures o.world ∙ ap (λ ts. as_texts ts ++ references_read o.world D) c.new-texts.ensures.items in
    let h = rw texts at c.in_ok-targets.ensures.built in
    IfErr-weaker c.compile_at.result _ _ (λ e r. document_refused o D h e (r (known o D c.in_ok-targets.targets reference_limit) (known_stand o D h reference_limit (omega arith))).tells)
    (rw c.new.ensures at c.compile_at.ensures.refused)

pub returns-clause-built : goal.returns-clause-built
returns-clause-built g c =
    let o = kit g.L.Leaf.Leaf g.M.Engine.RegexEngine in
    let D = view c.args.document.now in
    let texts : as_texts c.references_read.new.texts.items ≡ references_read o.world D = c.in_ok-references_read.ensures o.world ∙ ap (λ ts. as_texts ts ++ references_read o.world D) c.new-texts.ensures.items in
    let h = rw texts at c.in_ok-targets.ensures.built in
    IfOk-weaker c.compile_at.result _ _ (λ n b. document_built o D h (b (known o D c.in_ok-targets.targets reference_limit) (known_stand o D h reference_limit (omega arith))))
    (rw c.new.ensures at c.compile_at.ensures.built)
