use Rattle.olk_base.specs.Nodes.{subject_data}
use Rattle.olk_evaluate.proofs.OwnErrors.{no_texts}
use Rattle.olk_evaluate.proofs.node.show_leaf.Goals as goal

pub returns-then-leaf_accepts : goal.returns-then-leaf_accepts
returns-then-leaf_accepts g c = no_texts (g.K.Leaf.keyword_of c.args.leaf.now) (g.K.Leaf.finds c.args.leaf.now (subject_data c.args.node)) c.if-leaf_accepts.ensures c.requires
