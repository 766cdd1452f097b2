-- What the places inside answer, where leaves and patterns are those of a kit, and which schema a place stands for by it.
use Rattle.std.specs.Prelude.{◌≡◌, ◌≤◌, Bool, true}
use Rattle.serde_json.specs.Data.{Data}
use Rattle.olk_spec.specs.Names.{Path}
use Rattle.olk_spec.specs.Faults.{◌∼◌}
use Rattle.olk_base.specs.Kit.{Kit, kit, world}
use Rattle.olk_base.specs.declared.traits.Leaf as leaf
use Rattle.olk_base.specs.declared.traits.RegexEngine as engine
use Rattle.olk_meaning.specs.Steps.{Steps, accepts, asks, report, tree, validators}
use Rattle.olk_meaning.proofs.Layer.{layer_steps}
use Rattle.olk_tree.specs.Answers.{Answers}
use Rattle.olk_tree.specs.Questions.{of_asked}

pub record StepsOf {K R : Type 0} (o : Kit K R) : Type 0 where
  pub steps : Steps o.world

-- those of the layer
abbrev pub layer_of : {K R : Type 0} → (o : Kit K R) → StepsOf o
layer_of o = record { steps = layer_steps o.world }

abbrev pub layer : {K R : Type 0} → (l : leaf.Ghosts K) → (r : engine.Ghosts R) → StepsOf (kit l r)
layer l r = layer_of (kit l r)

module _ {K R N : Type 0} {o : Kit K R} (I : StepsOf o) (answers : N → Answers) where
  -- the answers of the node n are those that the schema S has at P by these steps; it and all nodes inside have the form that is chosen for what they hold, and the validators that stand there and inside are those of the schema
  pub record StandsBy (n : N) (S : Data) (P : Path) : Type 0 where
    pub verdict : (u : Bool) (v : Data) → ((answers n).means v).accepts u ≡ accepts I.steps u S v
    pub asks_within : (u : Bool) (v : Data) → ((answers n).means v).asks of_asked u ≤ asks I.steps u S v
    pub faults : (u : Bool) (v : Data) (Q : Path) → (answers n).report u v Q ∼ report I.steps u S v P Q
    pub evaluation : (u : Bool) (v : Data) (Q : Path) → (answers n).tree u v Q ≡ tree I.steps u S v P Q
    pub place : (answers n).location ≡ P
    pub formed : (answers n).formed ≡ true
    pub forms : (answers n).forms ≡ validators I.steps S P
