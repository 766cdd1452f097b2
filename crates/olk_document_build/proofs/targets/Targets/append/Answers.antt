use Rattle.std.proofs.Common.{◌∙◌, ap, subst, [], arith}
use Rattle.olk_document_build.specs.Documents.{with_texts}
use Rattle.olk_document_build.proofs.Rounds.{MoreSoFar, all_added, one_added, with_texts_more, none_of_none}
use Rattle.olk_document_build.proofs.targets.Targets.append.Goals as goal

pub loop-text-preserved : goal.loop-text-preserved
loop-text-preserved g c = one_added (with_texts c.pop.new.self.items) c.in-Some.text.now c.in-Some.node c.in_ok-add.ensures
    (subst (λ ns. MoreSoFar c.args.self.now (with_texts c.args.nodes.items) ns c.loop-text.self)
    (ap with_texts c.in-Some.ensures.items ∙ with_texts_more c.pop.new.self.items c.in-Some.text c.in-Some.node) c.loop-text.invariant)

pub returns : goal.returns
returns g c =
    let none = (rw c.in_default.is at c.pop.ensures.cases).0 in
    all_added (subst (λ ns. MoreSoFar c.args.self.now (with_texts c.args.nodes.items) (with_texts ns) c.loop-text.self)
    (none_of_none c.loop-text.nodes.items (omega (arith, none, c.loop-text.nodes.ok))) c.loop-text.invariant)
