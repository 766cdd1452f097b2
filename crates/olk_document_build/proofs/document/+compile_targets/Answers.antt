use Rattle.std.proofs.Common.{◌≡◌, suc, ◌-◌, sym, subst, arith}
use Rattle.serde_json.specs.View.{view}
use Rattle.olk_base.specs.Kit.{kit, world}
use Rattle.olk_build.proofs.Spending.{exit_with}
use Rattle.olk_build.specs.Refusing.{TellsOneOf}
use Rattle.olk_document_build.specs.Documents.{AreTargets, references_behind, faults_behind}
use Rattle.olk_document_build.specs.References.{as_texts}
use Rattle.olk_document_build.proofs.Rounds.{no_targets_at_all, round_added, refused_round, refused_behind}
use Rattle.olk_document_build.proofs.document.+compile_targets.Goals as goal

pub returns-then-limit-eq0-clause-built : goal.returns-then-limit-eq0-clause-built
returns-then-limit-eq0-clause-built g t c =
    rw c.if-limit-eq0.true (no_targets_at_all (kit g.L.Leaf.Leaf g.M.Engine.RegexEngine) (view c.args.document.now) c.new.ensures)

pub returns-in_err-targets-clause-refused : goal.returns-in_err-targets-clause-refused
returns-in_err-targets-clause-refused g t c =
    let W = world g.L.Leaf.Leaf g.M.Engine.RegexEngine in
    let D = view c.args.document.now in
    let once : suc (c.args.limit - 1) ≡ c.args.limit = omega arith in
    let behind = rw (c.in_ok-behind.ensures W) at c.in_err-targets.ensures.refused in
    exit_with _ _ _ c.from_residual-in_err-targets.ensures.1
    (subst (λ n. TellsOneOf (faults_behind W D n (as_texts c.args.texts.items)) c.in_err-targets.field-0.0) once (refused_behind W D c.without_repeats-round.ensures (c.args.limit - 1) c.in_err-targets.field-0.0 behind))

pub returns-in_err-nodes-clause-refused : goal.returns-in_err-nodes-clause-refused
returns-in_err-nodes-clause-refused g t c =
    let W = world g.L.Leaf.Leaf g.M.Engine.RegexEngine in
    let D = view c.args.document.now in
    let once : suc (c.args.limit - 1) ≡ c.args.limit = omega arith in
    let behind = rw (c.in_ok-behind.ensures W) at c.in_ok-targets.ensures.built in
    exit_with _ _ _ c.from_residual-in_err-nodes.ensures.1
    (subst (λ n. TellsOneOf (faults_behind W D n (as_texts c.args.texts.items)) c.in_err-nodes.field-0.0) once
    (refused_round W D c.without_repeats-round.ensures (suc (c.args.limit - 1)) c.in_err-nodes.field-0.0 (c.in_err-nodes.ensures.refused (c.args.limit - 1) behind)))

pub returns-clause-built : goal.returns-clause-built
returns-clause-built g t c =
    let W = world g.L.Leaf.Leaf g.M.Engine.RegexEngine in
    let D = view c.args.document.now in
    let once : suc (c.args.limit - 1) ≡ c.args.limit = omega arith in
    let behind = rw (c.in_ok-behind.ensures W) at c.in_ok-targets.ensures.built in
    subst (λ n. AreTargets (kit g.L.Leaf.Leaf g.M.Engine.RegexEngine) D n (as_texts c.args.texts.items) c.append.new.self) once
    (round_added (kit g.L.Leaf.Leaf g.M.Engine.RegexEngine) D (c.args.limit - 1) c.without_repeats-round.ensures behind c.in_ok-nodes.ensures.built c.in_ok-append.ensures)
