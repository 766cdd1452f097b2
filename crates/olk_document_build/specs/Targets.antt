-- The nodes of the places that references name, and what they stand for.
use Rattle.std.specs.Prelude.{◌≡◌, ◌≤◌, Bool, true, [], ◌∷◌, Option, Some, None, option_map}
use Rattle.std.specs.BTreeMap.{get_by_text}
use Rattle.serde_json.specs.Data.{Data}
use Rattle.olk_spec.specs.Names.{Text, Path}
use Rattle.olk_spec.specs.Faults.{◌∼◌}
use Rattle.olk_base.specs.Kit.{Kit, kit}
use Rattle.olk_base.specs.declared.traits.Leaf as leaf
use Rattle.olk_base.specs.declared.traits.RegexEngine as engine
use Rattle.olk_tree.specs.Answers.{Answers}
use Rattle.olk_tree.specs.Questions.{of_asked}
use Rattle.olk_tree.specs.Steps.{StepsOf}
use Rattle.olk_document_spec.specs.Keywords.{Target}
use Rattle.olk_documents.specs.Nodes.{answers}
use Rattle.olk_documents.specs.declared.node.DocumentNode.{DocumentNode}
use Rattle.olk_document_meaning.specs.Places.{Referred}
use Rattle.olk_document_build.specs.Kits.{document}
use Rattle.olk_document_build.specs.declared.targets.Targets.{Targets}

-- the node under a text, if there is one
abbrev pub target_of : {K R : Type 0} → Targets K R → Text → Option (DocumentNode K R)
target_of T t = option_map (λ n. n.value) (get_by_text T.nodes t)

module _ {K R : Type 0} (o : Kit K R) (F : Referred) where
  -- the node answers what the place means that the text names; nothing is wrong there
  pub record IsTarget (n : DocumentNode K R) (t : Text) : Type 0 where
    pub target : Bool → Target
    pub named : (u : Bool) → F.means u t ≡ target u ∷ []
    pub verdict : (u : Bool) (v : Data) → ((answers o n).means v).accepts u ≡ (target u).meaning.accepts v
    pub asks_within : (u : Bool) (v : Data) → ((answers o n).means v).asks of_asked u ≤ (target u).meaning.asks v
    pub faults : (u : Bool) (v : Data) (Q : Path) → (answers o n).report u v Q ∼ (target u).meaning.report v (target u).place Q
    pub evaluation : (u : Bool) (v : Data) (Q : Path) → (answers o n).tree u v Q ≡ (target u).meaning.tree v (target u).place Q
    pub formed : (answers o n).formed ≡ true
    pub forms : (answers o n).forms ≡ F.stands t
    pub clean : F.refuses t ≡ Some []

  -- a text that none stands under can't be followed
  abbrev pub StandsUnder : Text → Option (DocumentNode K R) → Type 0
  StandsUnder t None = F.refuses t ≡ None
  StandsUnder t (Some n) = IsTarget n t

  abbrev pub TargetsStand : Targets K R → Type 0
  TargetsStand T = (t : Text) → StandsUnder t (target_of T t)

-- whatever references name, as far as these targets stand for it
abbrev pub ByTargets : {K R : Type 0} → (l : leaf.Ghosts K) → (r : engine.Ghosts R) → Targets K R → (StepsOf (kit l r) → Type 0) → Type 0
ByTargets l r T X = (F : Referred) → TargetsStand (kit l r) F T → X (document l r F)

-- what nodes answer over the kit of these steps
abbrev pub answers_by : {K R : Type 0} {o : Kit K R} → StepsOf o → DocumentNode K R → Answers
answers_by {o = o} I = answers o
