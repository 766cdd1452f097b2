use Rattle.std.proofs.Common.{rules}
use Rattle.olk_base.specs.Kit.{kit}
use Rattle.olk_documents.specs.declared.node.DocumentNode.{the_lemmas}
use Rattle.olk_documents.proofs.Nodes.{layer_answers}
use Rattle.olk_documents.proofs.node.DocumentNodeBuiltNode.new.Goals as goal

pub returns : goal.returns
returns g c = layer_answers (kit g.K.Leaf g.R.RegexEngine) _ (search (rules, the_lemmas)) (search (rules, the_lemmas)) (search (rules, the_lemmas, c.new.ensures.items))
