-- What a node of a document answers.
use Rattle.std.specs.Prelude.{◌++◌, ◌&&◌, List, map}
use Rattle.std.specs.List.{flat_map, list_all}
use Rattle.olk_base.specs.Kit.{Kit}
use Rattle.olk_document_spec.specs.Steps.{with_children}
use Rattle.olk_tree.specs.Answers.{Answers, AnswersOver, answered}
use Rattle.olk_tree.specs.Bodies.{body_answers}
use Rattle.olk_tree.specs.Emptiness.{each_agrees, both_agree, first_of_agrees, or_else_agrees}
use Rattle.olk_tree.specs.Firsts.{first_of, or_else}
use Rattle.olk_tree.specs.Questions.{both, every}
use Rattle.olk_tree.specs.Validators.{answers_of}
use Rattle.olk_documents.specs.Arrays.{prefix_items_answers, items_answers}
use Rattle.olk_documents.specs.Contains.{contains_answers}
use Rattle.olk_documents.specs.References.{reference_answers}
use Rattle.olk_documents.specs.declared.node.DocumentKeyword.{DocumentKeyword}
use Rattle.olk_documents.specs.declared.node.DocumentKeyword.TheVariants.{PrefixItems, Items, Contains, Reference}
use Rattle.olk_documents.specs.declared.node.DocumentNode.{DocumentNode, fold-DocumentNode}
use Rattle.olk_documents.specs.declared.node.DocumentNode.TheOpen.{DocumentNode-F}

-- what a keyword of a document answers over its nodes
unfoldable pub more_of : {N : Type 0} → DocumentKeyword N → AnswersOver N
more_of (PrefixItems k) = prefix_items_answers k
more_of (Items k) = items_answers k
more_of (Contains k) = contains_answers k
more_of (Reference k) = reference_answers k

-- what the layer answers and, behind it, what the keywords of the document do
abbrev pub beside : Answers → List Answers → Answers
beside a bs = record {
  means = λ v. both (a.means v) (every (λ b. b.means v) bs);
  report = λ u v Q. a.report u v Q ++ flat_map (λ b. b.report u v Q) bs;
  agrees = λ u v Q. both_agree (a.report u v Q) (flat_map (λ b. b.report u v Q) bs) (a.agrees u v Q) (each_agrees (λ b. b.report u v Q) (λ b. b.means v) u (λ b. b.agrees u v Q) bs);
  first = λ u v Q. or_else (a.first u v Q) (first_of (λ b. b.first u v Q) bs);
  first_agrees = λ u v Q. or_else_agrees (a.first u v Q) (first_of (λ b. b.first u v Q) bs) (a.first_agrees u v Q) (first_of_agrees (λ b. b.first u v Q) (λ b. b.means v) u (λ b. b.first_agrees u v Q) bs);
  tree = λ u v Q. with_children (a.tree u v Q) (map (λ b. b.tree u v Q) bs);
  location = a.location;
  formed = a.formed && list_all (λ b. b.formed) bs;
  forms = a.forms ++ flat_map (λ b. b.forms) bs;
}

module _ {K R : Type 0} (o : Kit K R) where
  -- what the layer reads at the place
  abbrev pub layer_step : DocumentNode-F K R Answers → Answers
  layer_step n = body_answers (λ k. answered (λ a. a) (answers_of o k)) n.location n.body

  abbrev pub node_step : DocumentNode-F K R Answers → Answers
  node_step n = beside (layer_step n) (map (λ k. answered (λ a. a) (more_of k)) n.more.items)

  -- by recursion over the node
  unfoldable pub answers : DocumentNode K R → Answers
  answers = fold-DocumentNode K R Answers node_step
