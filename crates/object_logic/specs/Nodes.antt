-- What a node answers: whether it accepts a value, the faults that it finds, the tree that it shows, and whether all in it has its form.
use Rattle.olk_tree.specs.Answers.{Answers, answered}
use Rattle.olk_tree.specs.Bodies.{body_answers}
use Rattle.olk_tree.specs.Validators.{answers_of}
use Rattle.olk_base.specs.Kit.{Kit}
use Rattle.object_logic.specs.declared.node.SchemaNode.{SchemaNode, fold-SchemaNode}
use Rattle.object_logic.specs.declared.node.SchemaNode.TheOpen.{SchemaNode-F}
use Rattle.serde_json.specs.Data.{Data}
use Rattle.olk_spec.specs.Names.{Path}
use Rattle.olk_tree.specs.Places.{Stands}

module _ {K R : Type 0} (o : Kit K R) where
  abbrev pub node_step : SchemaNode-F K R Answers → Answers
  node_step n = body_answers (λ k. answered (λ a. a) (answers_of o k)) n.location n.body

  -- what a node answers, by recursion over it
  unfoldable pub answers : SchemaNode K R → Answers
  answers = fold-SchemaNode K R Answers node_step

-- A node stands for a schema at a place.
abbrev pub StandsFor : {K R : Type 0} → Kit K R → SchemaNode K R → Data → Path → Type 0
StandsFor o = Stands o (answers o)
