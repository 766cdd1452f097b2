-- One level of a node: its answers, over those of the nodes below it.
use Rattle.std.specs.Prelude.{◌≡◌, Bool, ◌++◌, ◌&&◌, List, map}
use Rattle.std.specs.List.{flat_map, list_all, zip}
use Rattle.std.specs.formers.vec.Vec as vec
use Rattle.std.proofs.Common.{refl, sym, ap, ◌∙◌, subst}
use Rattle.std.proofs.lemmas.List.Folds.{list_all-map}
use mathlib.Core.Path.{fun_ext}
use Rattle.serde_json.specs.Data.{Data}
use Rattle.olk_spec.specs.Names.{Path, ◌//◌}
use Rattle.olk_spec.specs.Tree.{plain}
use Rattle.olk_spec.proofs.Maps.{flat_map-map, map-map}
use Rattle.olk_base.specs.Kit.{Kit}
use Rattle.olk_tree.specs.Answers.{Answers, answered}
use Rattle.olk_tree.specs.Firsts.{or_else, first_of}
use Rattle.olk_tree.specs.Questions.{both, every}
use Rattle.olk_tree.specs.declared.additional_properties.Restriction.TheVariants as by
use Rattle.olk_tree.specs.declared.node.Body.{Body}
use Rattle.olk_tree.specs.declared.node.Body.TheVariants.{Keywords}
use Rattle.olk_tree.specs.declared.node.KeywordOver.{KeywordOver}
use Rattle.olk_tree.specs.declared.node.KeywordOver.TheVariants as keyword
use Rattle.olk_tree.proofs.Layers.{AnswersAlike, place_answers, place_answers-map}
use Rattle.olk_tree.proofs.Mapped.{body_mapped, few_or_many}
use Rattle.olk_tree.proofs.Maps.{all-map, every-map, first_of-map}
use Rattle.olk_document_spec.specs.Applied.{items_from}
use Rattle.olk_document_spec.specs.Steps.{with_children}
use Rattle.olk_documents.specs.Nodes.{layer_step, node_step, answers, more_of}
use Rattle.olk_documents.specs.declared.node.DocumentKeyword.{DocumentKeyword}
use Rattle.olk_documents.specs.declared.node.DocumentKeyword.TheVariants as more
use Rattle.olk_documents.specs.declared.node.DocumentNode.{DocumentNode, map-DocumentNode, out-DocumentNode, fold_out-DocumentNode}
use Rattle.olk_documents.specs.declared.node.DocumentNode.TheOpen.{DocumentNode-F}
use Rattle.olk_documents.proofs.Pairs.{with_node, pairs-map}

module _ {K R : Type 0} (o : Kit K R) where
  abbrev Node : Type 0
  Node = DocumentNode K R

  abbrev OpenNode : Type 0
  OpenNode = DocumentNode-F K R Node

  abbrev inside : Node → OpenNode
  inside n = out-DocumentNode K R n

  -- a node with the answers of the nodes below it in their place
  abbrev opened : OpenNode → DocumentNode-F K R Answers
  opened n = map-DocumentNode K R Node Answers (answers o) n

  body_opened : (n : OpenNode) (b : Body (KeywordOver K R Node)) → (opened record n { body = b }).body ≡ body_mapped (answers o) b
  body_opened n (Keywords ks) = ap (λ h. Keywords (vec.mapped h ks)) (fun_ext (elim [
    | keyword.AdditionalProperties (by.NotEmpty k) ↦ few_or_many k.value.properties (λ m e. rw e refl) (λ m e. rw e refl)
    | keyword.AdditionalProperties (by.NotEmptyFalse k) ↦ few_or_many k.value.properties (λ m e. rw e refl) (λ m e. rw e refl)
    | keyword.AdditionalProperties (by.NotEmptyFalseWithRequired1 k) ↦ few_or_many k.value.properties (λ m e. rw e refl) (λ m e. rw e refl)
    | keyword.AdditionalProperties (by.WithPatternsNotEmpty k) ↦ few_or_many k.value.properties (λ m e. rw e refl) (λ m e. rw e refl)
    | keyword.AdditionalProperties (by.WithPatternsNotEmptyFalse k) ↦ few_or_many k.value.properties (λ m e. rw e refl) (λ m e. rw e refl)
    | _ ↦ refl
  ]))
  body_opened n b = refl

  -- what the layer reads at a place
  abbrev pub layer_at : Path → Body (KeywordOver K R Node) → Answers
  layer_at P b = place_answers o (answers o) P b

  layer_opened : (n : OpenNode) → AnswersAlike (layer_step o (opened n)) (layer_at n.location n.body)
  layer_opened n = subst (λ b. AnswersAlike (place_answers o (λ a. a) n.location b) (layer_at n.location n.body)) (sym (body_opened n n.body)) (place_answers-map o (answers o) n.location n.body)

  -- ---- what the document's keywords answer

  abbrev pub own_answers : DocumentKeyword Node → Answers
  own_answers k = answered (answers o) (more_of k)

  abbrev opened_answers : DocumentKeyword Answers → Answers
  opened_answers k = answered (λ a. a) (more_of k)

  abbrev own_opened : OpenNode → List Answers
  own_opened n = map opened_answers (opened n).more.items

  own_means : (n : OpenNode) (v : Data) → every (λ a. a.means v) (own_opened n) ≡ every (λ k. (own_answers k).means v) n.more.items
  unfolding more_of
  own_means n v = every-map (λ a. a.means v) (λ k. (opened_answers k).means v) opened_answers (λ k. refl) (opened n).more.items
      ∙ every-map (λ k. (opened_answers k).means v) (λ k. (own_answers k).means v) _ (elim [
        | more.PrefixItems k ↦ ap (every (λ e. e.0.means e.1.1)) (pairs-map (answers o) k.schemas.items (items_from 0 v)) ∙ every-map _ _ (with_node (answers o)) (λ e. refl) (zip k.schemas.items (items_from 0 v))
        | _ ↦ refl
      ]) n.more.items

  own_finds : (n : OpenNode) (u : Bool) (v : Data) (Q : Path) → flat_map (λ a. a.report u v Q) (own_opened n) ≡ flat_map (λ k. (own_answers k).report u v Q) n.more.items
  unfolding more_of
  own_finds n u v Q = flat_map-map (λ a. a.report u v Q) (λ k. (opened_answers k).report u v Q) opened_answers (λ k. refl) (opened n).more.items
      ∙ flat_map-map (λ k. (opened_answers k).report u v Q) (λ k. (own_answers k).report u v Q) _ (elim [
        | more.PrefixItems k ↦ ap (flat_map (λ e. e.0.report u e.1.1 (Q // e.1.0))) (pairs-map (answers o) k.schemas.items (items_from 0 v)) ∙ flat_map-map _ _ (with_node (answers o)) (λ e. refl) (zip k.schemas.items (items_from 0 v))
        | _ ↦ refl
      ]) n.more.items

  own_first : (n : OpenNode) (u : Bool) (v : Data) (Q : Path) → first_of (λ a. a.first u v Q) (own_opened n) ≡ first_of (λ k. (own_answers k).first u v Q) n.more.items
  unfolding more_of
  own_first n u v Q = first_of-map (λ a. a.first u v Q) (λ k. (opened_answers k).first u v Q) opened_answers (λ k. refl) (opened n).more.items
      ∙ first_of-map (λ k. (opened_answers k).first u v Q) (λ k. (own_answers k).first u v Q) _ (elim [
        | more.PrefixItems k ↦ ap (first_of (λ e. e.0.first u e.1.1 (Q // e.1.0))) (pairs-map (answers o) k.schemas.items (items_from 0 v)) ∙ first_of-map _ _ (with_node (answers o)) (λ e. refl) (zip k.schemas.items (items_from 0 v))
        | _ ↦ refl
      ]) n.more.items

  own_shows : (n : OpenNode) (u : Bool) (v : Data) (Q : Path) → map (λ a. a.tree u v Q) (own_opened n) ≡ map (λ k. (own_answers k).tree u v Q) n.more.items
  unfolding more_of
  own_shows n u v Q = map-map (λ a. a.tree u v Q) (λ k. (opened_answers k).tree u v Q) opened_answers (λ k. refl) (opened n).more.items
      ∙ map-map (λ k. (opened_answers k).tree u v Q) (λ k. (own_answers k).tree u v Q) _ (elim [
        | more.PrefixItems k ↦ ap (λ es. plain k.location Q (map (λ e. e.0.tree u e.1.1 (Q // e.1.0)) es)) (pairs-map (answers o) k.schemas.items (items_from 0 v)) ∙ ap (plain k.location Q) (map-map _ _ (with_node (answers o)) (λ e. refl) (zip k.schemas.items (items_from 0 v)))
        | _ ↦ refl
      ]) n.more.items

  own_formed : (n : OpenNode) → list_all (λ a. a.formed) (own_opened n) ≡ list_all (λ k. (own_answers k).formed) n.more.items
  unfolding more_of
  own_formed n = all-map (λ a. a.formed) (λ k. (opened_answers k).formed) opened_answers (λ k. refl) (opened n).more.items
      ∙ all-map (λ k. (opened_answers k).formed) (λ k. (own_answers k).formed) _ (elim [
        | more.PrefixItems k ↦ list_all-map (λ a. a.formed) (answers o) k.schemas.items
        | _ ↦ refl
      ]) n.more.items

  own_forms : (n : OpenNode) → flat_map (λ a. a.forms) (own_opened n) ≡ flat_map (λ k. (own_answers k).forms) n.more.items
  unfolding more_of
  own_forms n = flat_map-map (λ a. a.forms) (λ k. (opened_answers k).forms) opened_answers (λ k. refl) (opened n).more.items
      ∙ flat_map-map (λ k. (opened_answers k).forms) (λ k. (own_answers k).forms) _ (elim [
        | more.PrefixItems k ↦ flat_map-map (λ a. a.forms) (λ z. (answers o z).forms) (answers o) (λ z. refl) k.schemas.items
        | _ ↦ refl
      ]) n.more.items

  -- ---- a node

  is_step : (n : Node) → answers o n ≡ node_step o (opened (inside n))
  unfolding answers
  is_step n = fold_out-DocumentNode K R Answers (node_step o) n

  abbrev layer_in : Node → Answers
  layer_in n = layer_at (inside n).location (inside n).body

  pub node_means : (n : Node) (v : Data) → (answers o n).means v ≡ both ((layer_in n).means v) (every (λ k. (own_answers k).means v) (inside n).more.items)
  node_means n v = ap (λ a. a.means v) (is_step n) ∙ (λ i. both ((layer_opened (inside n)).verdict v i) (own_means (inside n) v i))

  pub node_finds : (n : Node) (u : Bool) (v : Data) (Q : Path) → (answers o n).report u v Q ≡ (layer_in n).report u v Q ++ flat_map (λ k. (own_answers k).report u v Q) (inside n).more.items
  node_finds n u v Q = ap (λ a. a.report u v Q) (is_step n) ∙ (λ i. (layer_opened (inside n)).faults u v Q i ++ own_finds (inside n) u v Q i)

  pub node_first : (n : Node) (u : Bool) (v : Data) (Q : Path) → (answers o n).first u v Q ≡ or_else ((layer_in n).first u v Q) (first_of (λ k. (own_answers k).first u v Q) (inside n).more.items)
  node_first n u v Q = ap (λ a. a.first u v Q) (is_step n) ∙ (λ i. or_else ((layer_opened (inside n)).first u v Q i) (own_first (inside n) u v Q i))

  pub node_shows : (n : Node) (u : Bool) (v : Data) (Q : Path) → (answers o n).tree u v Q ≡ with_children ((layer_in n).tree u v Q) (map (λ k. (own_answers k).tree u v Q) (inside n).more.items)
  node_shows n u v Q = ap (λ a. a.tree u v Q) (is_step n) ∙ (λ i. with_children ((layer_opened (inside n)).evaluation u v Q i) (own_shows (inside n) u v Q i))

  pub node_location : (n : Node) → (answers o n).location ≡ (inside n).location
  node_location n = ap (λ a. a.location) (is_step n)

  pub node_formed : (n : Node) → (answers o n).formed ≡ ((layer_in n).formed && list_all (λ k. (own_answers k).formed) (inside n).more.items)
  node_formed n = ap (λ a. a.formed) (is_step n) ∙ (λ i. (layer_opened (inside n)).formed i && own_formed (inside n) i)

  pub node_forms : (n : Node) → (answers o n).forms ≡ (layer_in n).forms ++ flat_map (λ k. (own_answers k).forms) (inside n).more.items
  node_forms n = ap (λ a. a.forms) (is_step n) ∙ (λ i. (layer_opened (inside n)).forms i ++ own_forms (inside n) i)

pub ruleset layers = (node_means, node_finds, node_first, node_shows, node_location)
