use Rattle.olk_tree.specs.declared.node.KeywordOver.TheVariants.{Leaf}
use Rattle.olk_build.proofs.TakenParts.{makes_leaf_taking}
use Rattle.std.proofs.{Common.Some, lemmas.Result.on_ok_weaker}
use Rattle.olk_build.proofs.taking.append_alone.Goals as goal

pub returns-in-Leaf : goal.returns-in-Leaf
returns-in-Leaf g c = on_ok_weaker c.append.result (λ e I. record {
  made = Some (Leaf c.args.part.location c.in-Leaf.leaf);
  behind = e;
  makes = λ none b. makes_leaf_taking I g.N.BuiltNode.answers c.in-Leaf.leaf c.args.part.nodes.items b c.in-Leaf.is;
}) c.append.ensures.items
