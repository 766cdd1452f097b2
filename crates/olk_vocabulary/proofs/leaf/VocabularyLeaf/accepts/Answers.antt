use Rattle.std.proofs.Common.{sym, ◌∙◌}
use Rattle.olk_base.specs.Nodes.{data_of}
use Rattle.olk_vocabulary.proofs.Findings.{kinds_accept}
use Rattle.olk_vocabulary.proofs.leaf.VocabularyLeaf.accepts.Goals as goal

pub returns-in-Types : goal.returns-in-Types
returns-in-Types c = rw c.in-Types.is (c.is_of_some_kind.ensures ∙ sym (kinds_accept c.in-Types.kinds (data_of c.args.node)))
