-- Nodes for a document and for the places that its references name.
use Rattle.std.specs.Prelude.{◌≡◌, ◌≤◌, ℕ, suc, ◌⊎◌, Bool, true, List, [], ◌∷◌, ◌++◌, map, Contains, Option, Some, None, option_to_list}
use Rattle.std.specs.Borrow.{Bor}
use Rattle.std.specs.List.{flat_map}
use Rattle.serde_json.specs.Data.{Data}
use Rattle.olk_spec.specs.Names.{Text, Path}
use Rattle.olk_spec.specs.Faults.{Fault, ◌∼◌}
use Rattle.olk_spec.specs.World.{World}
use Rattle.olk_base.specs.Kit.{Kit}
use Rattle.olk_reports.specs.declared.error.BuildError.{BuildError}
use Rattle.olk_tree.specs.Questions.{of_asked}
use Rattle.olk_build.specs.Refusing.{TellsOneOf}
use Rattle.olk_document_spec.specs.Documents.{document_meaning, place_named}
use Rattle.olk_document_spec.specs.Malformed.{references_read, malformed_targets, document_malformations}
use Rattle.olk_documents.specs.Nodes.{answers}
use Rattle.olk_documents.specs.declared.node.DocumentNode.{DocumentNode}
use Rattle.olk_document_meaning.proofs.Document_steps.{followed}
use Rattle.olk_document_build.specs.Targets.{target_of, IsTarget}
use Rattle.olk_document_build.specs.declared.targets.Targets.{Targets}

-- each text of one list is one of the other
pub record HaveTheSame (ts us : List Text) : Type 0 where
  pub there : (t : Text) → Contains ts t → Contains us t
  pub back : (t : Text) → Contains us t → Contains ts t

-- what is told of a text, if it can be followed
abbrev pub told : Option (List Fault) → List Fault
told None = []
told (Some fs) = fs

module _ (W : World) (D : Data) where
  -- the references that are read at the places that these texts name
  abbrev pub references_behind : List Text → List Text
  references_behind ts = flat_map (λ t. flat_map (references_read W) (option_to_list (place_named D t))) ts

  -- what is wrong at the places that these texts name, where references are followed so many times
  abbrev pub faults_behind : ℕ → List Text → List Fault
  faults_behind k ts = flat_map (λ t. told (malformed_targets W D k t)) ts

-- ---- nodes for the places that texts name

module _ {K R : Type 0} where
  -- the nodes of these, each with its text
  abbrev pub with_texts : List (Bor Text × DocumentNode K R) → List (Text × DocumentNode K R)
  with_texts ns = map (λ e. (e.0.now, e.1)) ns

  -- these targets are those and these nodes
  pub record HasMore (T : Targets K R) (ns : List (Text × DocumentNode K R)) (new : Targets K R) : Type 0 where
    pub among : (t : Text) (n : DocumentNode K R) → target_of new t ≡ Some n → (target_of T t ≡ Some n) ⊎ Contains ns (t, n)
    pub kept : (t : Text) → target_of new t ≡ None → target_of T t ≡ None
    pub added : (t : Text) → target_of new t ≡ None → (n : DocumentNode K R) → Contains ns (t, n) → ⊥

module _ {K R : Type 0} (o : Kit K R) (D : Data) where
  -- the node stands for the place that the text names, where references are followed k times or more often
  abbrev pub StandsFrom : ℕ → DocumentNode K R → Text → Type 0
  StandsFrom k n t = (m : ℕ) → k ≤ m → IsTarget o (followed o.world D m) n t

  -- each target does; of these texts, the others can't be followed so often
  pub record AreTargets (k : ℕ) (ts : List Text) (T : Targets K R) : Type 0 where
    pub stand : (t : Text) (n : DocumentNode K R) → target_of T t ≡ Some n → StandsFrom k n t
    pub others : (t : Text) → Contains ts t → target_of T t ≡ None → malformed_targets o.world D k t ≡ None

  -- a node where the text names a place
  abbrev pub IsMade : ℕ → Text → Option (DocumentNode K R) → Type 0
  IsMade k t None = place_named D t ≡ None
  IsMade k t (Some n) = StandsFrom k n t

  -- nodes for these texts, but for those that have a target already or name no place
  pub record AreMade (k : ℕ) (ts : List Text) (T : Targets K R) (ns : List (Text × DocumentNode K R)) : Type 0 where
    pub stand : (t : Text) (n : DocumentNode K R) → Contains ns (t, n) → StandsFrom k n t
    pub others : (t : Text) → Contains ts t → target_of T t ≡ None → (place_named D t ≡ None) ⊎ ((n : DocumentNode K R) × Contains ns (t, n))

  -- ---- by the targets that there are, wherever they are the ones of the references behind

  module _ (T : Targets K R) where
    abbrev pub IsMadeUnder : Text → Option (DocumentNode K R) → Type 0
    IsMadeUnder t r = (k : ℕ) (us : List Text) → AreTargets k us T → IsMade (suc k) t r

    abbrev pub RefusesText : Text → BuildError → Type 0
    RefusesText t e = (k : ℕ) (ts : List Text) → AreTargets k (references_behind o.world D ts) T → Contains ts t → TellsOneOf (faults_behind o.world D (suc k) ts) e

    abbrev pub AreMadeUnder : List Text → List (Text × DocumentNode K R) → Type 0
    AreMadeUnder ts ns = (k : ℕ) (us : List Text) → AreTargets k us T → AreMade (suc k) ts T ns

    abbrev pub OneMoreIsMade : Text → List (Text × DocumentNode K R) → List (Text × DocumentNode K R) → Type 0
    OneMoreIsMade t old new = (ts : List Text) → AreMadeUnder ts old → AreMadeUnder (ts ++ t ∷ []) new

    abbrev pub RefusesTexts : List Text → BuildError → Type 0
    RefusesTexts ts e = (k : ℕ) → AreTargets k (references_behind o.world D ts) T → TellsOneOf (faults_behind o.world D (suc k) ts) e

  -- ---- the node of the document

  -- it answers what the document means, of which nothing is wrong
  pub record IsDocument (n : DocumentNode K R) : Type 0 where
    pub verdict : (u : Bool) (v : Data) → ((answers o n).means v).accepts u ≡ (document_meaning o.world u D).accepts v
    pub asks_within : (u : Bool) (v : Data) → ((answers o n).means v).asks of_asked u ≤ (document_meaning o.world u D).asks v
    pub faults : (u : Bool) (v : Data) (Q : Path) → (answers o n).report u v Q ∼ (document_meaning o.world u D).report v [] Q
    pub evaluation : (u : Bool) (v : Data) (Q : Path) → (answers o n).tree u v Q ≡ (document_meaning o.world u D).tree v [] Q
    pub place : (answers o n).location ≡ []
    pub formed : (answers o n).formed ≡ true
    pub clean : document_malformations o.world D ≡ []
