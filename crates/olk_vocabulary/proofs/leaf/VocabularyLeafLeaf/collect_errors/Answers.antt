use Rattle.std.proofs.Common.{sym, ◌∙◌}
use Rattle.olk_base.specs.Nodes.{data_of}
use Rattle.olk_vocabulary.proofs.Findings.{finds_text, none_more, one_more}
use Rattle.olk_vocabulary.proofs.leaf.VocabularyLeafLeaf.collect_errors.Goals as goal

pub returns-then-is_valid-clause-ok : goal.returns-then-is_valid-clause-ok
returns-then-is_valid-clause-ok c = none_more _ _ (sym c.is_valid.ensures ∙ c.if-is_valid.true)

pub returns-clause-ok : goal.returns-clause-ok
returns-clause-ok c = one_more _ _ _ _ _ c.in_ok-push.ensures.items c.in_ok-text.ensures (finds_text c.args.self.now (data_of c.args.node) (sym c.is_valid.ensures ∙ c.if-is_valid.false))
