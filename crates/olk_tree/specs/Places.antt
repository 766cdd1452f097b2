-- What a place of a schema answers, and which schema it stands for.
use Rattle.std.specs.Prelude.{◌≡◌, ◌≤◌, Bool, true}
use Rattle.serde_json.specs.Data.{Data}
use Rattle.olk_spec.specs.Names.{Path}
use Rattle.olk_spec.specs.Faults.{◌∼◌}
use Rattle.olk_spec.specs.Meaning.{accepts, asks, report, tree}
use Rattle.olk_meaning.specs.Chosen.{validators}
use Rattle.olk_base.specs.Kit.{Kit}
use Rattle.olk_tree.specs.Answers.{Answers}
use Rattle.olk_tree.specs.Validators.{validator_means, validator_report, validator_first, validator_tree, validator_formed, validator_forms}
use Rattle.olk_tree.specs.Bodies.{body_means, body_report, body_first, body_tree, body_formed, body_forms}
use Rattle.olk_tree.specs.declared.node.KeywordOver.{KeywordOver}
use Rattle.olk_tree.specs.declared.node.Body.{Body}
use Rattle.olk_tree.specs.Questions.{of_asked}

module _ {K R N : Type 0} (o : Kit K R) (answers : N → Answers) where
  -- the answers of the node n are those of the schema S at P, for every value and path and for either answer for unfinished matches; it and all nodes inside have the form that is chosen for what they hold, and the validators that stand there and inside are those of the schema
  pub record Stands (n : N) (S : Data) (P : Path) : Type 0 where
    pub verdict : (u : Bool) (v : Data) → ((answers n).means v).accepts u ≡ accepts o.world u S v
    pub asks_within : (u : Bool) (v : Data) → ((answers n).means v).asks of_asked u ≤ asks o.world u S v
    pub faults : (u : Bool) (v : Data) (Q : Path) → (answers n).report u v Q ∼ report o.world u S v P Q
    pub evaluation : (u : Bool) (v : Data) (Q : Path) → (answers n).tree u v Q ≡ tree o.world u S v P Q
    pub place : (answers n).location ≡ P
    pub formed : (answers n).formed ≡ true
    pub forms : (answers n).forms ≡ validators o.world S P

  -- the node n at P answers as what stands there does, over the nodes that this holds
  pub record AnswersBy (P : Path) (b : Body (KeywordOver K R N)) (n : N) : Type 0 where
    pub verdict : (v : Data) → (answers n).means v ≡ body_means (validator_means o (λ z. (answers z).means)) b v
    pub faults : (u : Bool) (v : Data) (Q : Path) → (answers n).report u v Q ≡ body_report (validator_report o (λ z. (answers z).means) (λ z. (answers z).report) u) P b v Q
    pub first : (u : Bool) (v : Data) (Q : Path) → (answers n).first u v Q ≡ body_first (validator_first o (λ z. (answers z).means) (λ z. (answers z).report) u (λ z. (answers z).first)) P b v Q
    pub evaluation : (u : Bool) (v : Data) (Q : Path) → (answers n).tree u v Q ≡ body_tree (validator_tree o (λ z. (answers z).means) (λ z. (answers z).tree) u) P b v Q
    pub place : (answers n).location ≡ P
    pub formed : (answers n).formed ≡ body_formed (validator_formed o (λ z. (answers z).formed)) b
    pub forms : (answers n).forms ≡ body_forms (validator_forms o (λ z. (answers z).forms)) P b
