-- One level of a node: its answers, over those of the nodes below it.
use Rattle.std.specs.Prelude.{◌≡◌, Bool, List}
use Rattle.std.specs.formers.vec.Vec as vec
use Rattle.std.proofs.Common.{refl, sym, ap, ◌∙◌, subst}
use mathlib.Core.Path.{fun_ext, subst₂}
use Rattle.serde_json.specs.Data.{Data}
use Rattle.olk_spec.specs.Names.{Path}
use Rattle.olk_spec.specs.Faults.{Fault}
use Rattle.olk_spec.specs.Tree.{Tree}
use Rattle.olk_meaning.specs.Chosen.{Placed}
use Rattle.olk_base.specs.Kit.{Kit}
use Rattle.olk_tree.specs.Answers.{Answers}
use Rattle.olk_tree.specs.Bodies.{body_means, body_report, body_first, body_tree, body_formed, body_forms}
use Rattle.olk_tree.specs.Places.{AnswersBy}
use Rattle.olk_tree.specs.Questions.{Question}
use Rattle.olk_tree.specs.Validators.{validator_means, validator_report, validator_first, validator_tree, validator_formed, validator_forms}
use Rattle.olk_tree.specs.declared.additional_properties.Restriction.TheVariants as by
use Rattle.olk_tree.specs.declared.node.Body.{Body}
use Rattle.olk_tree.specs.declared.node.Body.TheVariants.{Keywords}
use Rattle.olk_tree.specs.declared.node.KeywordOver.{KeywordOver}
use Rattle.olk_tree.specs.declared.node.KeywordOver.TheVariants as keyword
use Rattle.olk_tree.proofs.Layers.{AnswersAlike, place_answers, place_answers-map}
use Rattle.olk_tree.proofs.Mapped.{body_mapped, few_or_many}
use Rattle.object_logic.specs.Nodes.{node_step, answers}
use Rattle.object_logic.specs.declared.node.SchemaNode.{SchemaNode, map-SchemaNode, out-SchemaNode, fold_out-SchemaNode}
use Rattle.object_logic.specs.declared.node.SchemaNode.TheOpen.{SchemaNode-F}

module _ {K R : Type 0} (o : Kit K R) where
  abbrev Node : Type 0
  Node = SchemaNode K R

  abbrev NodeKeyword : Type 0
  NodeKeyword = KeywordOver K R Node

  abbrev OpenNode : Type 0
  OpenNode = SchemaNode-F K R Node

  abbrev inside : Node → OpenNode
  inside n = out-SchemaNode K R n

  -- what the nodes answer
  abbrev means : Node → Data → Question
  means n = (answers o n).means

  abbrev finds : Node → Bool → Data → Path → List Fault
  finds n = (answers o n).report

  abbrev finds_first : Node → Bool → Data → Path → List Fault
  finds_first n = (answers o n).first

  abbrev shows : Node → Bool → Data → Path → Tree
  shows n = (answers o n).tree

  abbrev is_formed : Node → Bool
  is_formed n = (answers o n).formed

  abbrev stand_in : Node → List Placed
  stand_in n = (answers o n).forms

  -- a node with the answers of the nodes below it in their place
  abbrev opened : OpenNode → SchemaNode-F K R Answers
  opened n = map-SchemaNode K R Node Answers (answers o) n

  body_opened : (n : OpenNode) (b : Body NodeKeyword) → (opened record n { body = b }).body ≡ body_mapped (answers o) b
  body_opened n (Keywords ks) = ap (λ h. Keywords (vec.mapped h ks)) (fun_ext (elim [
    | keyword.AdditionalProperties (by.NotEmpty k) ↦ few_or_many k.value.properties (λ m e. rw e refl) (λ m e. rw e refl)
    | keyword.AdditionalProperties (by.NotEmptyFalse k) ↦ few_or_many k.value.properties (λ m e. rw e refl) (λ m e. rw e refl)
    | keyword.AdditionalProperties (by.NotEmptyFalseWithRequired1 k) ↦ few_or_many k.value.properties (λ m e. rw e refl) (λ m e. rw e refl)
    | keyword.AdditionalProperties (by.WithPatternsNotEmpty k) ↦ few_or_many k.value.properties (λ m e. rw e refl) (λ m e. rw e refl)
    | keyword.AdditionalProperties (by.WithPatternsNotEmptyFalse k) ↦ few_or_many k.value.properties (λ m e. rw e refl) (λ m e. rw e refl)
    | _ ↦ refl
  ]))
  body_opened n b = refl

  is_step : (n : Node) → answers o n ≡ node_step o (opened (inside n))
  unfolding answers
  is_step n = fold_out-SchemaNode K R Answers (node_step o) n

  abbrev layer_in : Node → Answers
  layer_in n = place_answers o (answers o) (inside n).location (inside n).body

  answers_as : (n : Node) → AnswersAlike (answers o n) (layer_in n)
  answers_as n = subst (λ x. AnswersAlike x (layer_in n)) (sym (is_step n ∙ ap (place_answers o (λ a. a) (inside n).location) (body_opened (inside n) (inside n).body))) (place_answers-map o (answers o) (inside n).location (inside n).body)

  pub node_means : (n : Node) (v : Data) → (answers o n).means v ≡ body_means (validator_means o means) (inside n).body v
  node_means n = (answers_as n).verdict

  pub node_finds : (n : Node) (u : Bool) (v : Data) (Q : Path) → (answers o n).report u v Q ≡ body_report
      (validator_report o means finds u) (inside n).location (inside n).body v Q
  node_finds n = (answers_as n).faults

  pub node_first : (n : Node) (u : Bool) (v : Data) (Q : Path) → (answers o n).first u v Q ≡ body_first
      (validator_first o means finds u finds_first) (inside n).location (inside n).body v Q
  node_first n = (answers_as n).first

  pub node_shows : (n : Node) (u : Bool) (v : Data) (Q : Path) → (answers o n).tree u v Q ≡ body_tree (validator_tree o means shows u)
      (inside n).location (inside n).body v Q
  node_shows n = (answers_as n).evaluation

  pub node_location : (n : Node) → (answers o n).location ≡ (inside n).location
  node_location n = (answers_as n).place

  pub node_formed : (n : Node) → (answers o n).formed ≡ body_formed (validator_formed o is_formed) (inside n).body
  node_formed n = (answers_as n).formed

  pub node_forms : (n : Node) → (answers o n).forms ≡ body_forms (validator_forms o stand_in) (inside n).location (inside n).body
  node_forms n = (answers_as n).forms

  -- a node answers as what stands at its place
  pub node_answers : (n : Node) (P : Path) (b : Body NodeKeyword) → (inside n).location ≡ P
      → (inside n).body ≡ b → AnswersBy o (answers o) P b n
  node_answers n P b at is = subst₂ (λ P b. AnswersBy o (answers o) P b n) at is record {
    verdict = node_means n;
    faults = node_finds n;
    first = node_first n;
    evaluation = node_shows n;
    place = node_location n;
    formed = node_formed n;
    forms = node_forms n;
  }

pub ruleset layers = (node_means, node_finds, node_first, node_shows, node_location)
