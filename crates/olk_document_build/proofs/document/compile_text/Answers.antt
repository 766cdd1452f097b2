use Rattle.std.proofs.Common.{◌∙◌, ◌∷◌, [], ◌++◌, sym, ap, subst}
use Rattle.serde_json.specs.View.{view}
use Rattle.olk_base.specs.Kit.{kit}
use Rattle.olk_document_build.specs.Documents.{AreMadeUnder, with_texts}
use Rattle.olk_document_build.proofs.Rounds.{had, one_had, one_nowhere, one_made, with_texts_more}
use Rattle.olk_document_build.proofs.document.compile_text.Goals as goal

pub returns-then-is_some-clause-built : goal.returns-then-is_some-clause-built
returns-then-is_some-clause-built g c ts made =
    let there = had (λ n. n.now.value) c.find.result (sym c.is_some.ensures ∙ c.if-is_some.true) c.find.ensures in
    one_had (kit g.L.Leaf.Leaf g.M.Engine.RegexEngine) (view c.args.document.now) c.args.targets.now ts (with_texts c.args.nodes.now.items) c.args.text.now there.1 made

pub returns-in_ok-append-in-Some-clause-built : goal.returns-in_ok-append-in-Some-clause-built
returns-in_ok-append-in-Some-clause-built g c ts made =
    let new = rw c.in-Some.is at c.in_ok-node.ensures.built in
    subst (AreMadeUnder (kit g.L.Leaf.Leaf g.M.Engine.RegexEngine) (view c.args.document.now) c.args.targets.now (ts ++ c.args.text.now ∷ []))
    (sym (ap with_texts c.in_ok-append-in-Some.ensures.items ∙ with_texts_more c.args.nodes.now.items c.args.text c.in-Some.node))
    (one_made (kit g.L.Leaf.Leaf g.M.Engine.RegexEngine) (view c.args.document.now) c.args.targets.now ts (with_texts c.args.nodes.now.items) c.args.text.now new made)

pub returns-in-None-clause-built : goal.returns-in-None-clause-built
returns-in-None-clause-built g c ts made =
    one_nowhere (kit g.L.Leaf.Leaf g.M.Engine.RegexEngine) (view c.args.document.now) c.args.targets.now ts (with_texts c.args.nodes.now.items) c.args.text.now
    (rw c.in-None.is at c.in_ok-node.ensures.built) made
