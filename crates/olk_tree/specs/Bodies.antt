-- What stands at a place of a schema answers, over what its keywords answer.
use Rattle.std.specs.Prelude.{◌≡◌, Bool, true, false, List, [], ◌∷◌, map}
use Rattle.std.specs.List.{flat_map, list_all}
use Rattle.std.proofs.Common.{refl}
use Rattle.serde_json.specs.Data.{Data}
use Rattle.olk_spec.specs.Names.{Path, is_empty}
use Rattle.olk_spec.specs.Faults.{Fault, fault, FalseSchema}
use Rattle.olk_spec.specs.Tree.{Tree, plain, erring}
use Rattle.olk_meaning.specs.Chosen.{Placed, true_form, false_form, object_form, names_form}
use Rattle.olk_tree.specs.Answers.{Answers}
use Rattle.olk_tree.specs.Emptiness.{each_agrees, first_of_agrees}
use Rattle.olk_tree.specs.Firsts.{first_of}
use Rattle.olk_tree.specs.Questions.{Question, always, every}
use Rattle.olk_tree.specs.Required.{required_answers}
use Rattle.olk_tree.specs.declared.node.Body.{Body}
use Rattle.olk_tree.specs.declared.node.Body.TheVariants.{True, False, Keywords, RequiredNames}

-- whether a body accepts
abbrev pub body_means : {W : Type 0} → (W → Data → Question) → Body W → Data → Question
body_means f True v = always true
body_means f False v = always false
body_means f (Keywords ks) v = every (λ k. f k v) ks.items
body_means f (RequiredNames k) v = (required_answers k.value).means v

-- what a body finds at its place
abbrev pub body_report : {W : Type 0} → (W → Data → Path → List Fault) → Path → Body W → Data → Path → List Fault
body_report f P True v Q = []
body_report f P False v Q = fault FalseSchema v Q P ∷ []
body_report f P (Keywords ks) v Q = flat_map (λ k. f k v Q) ks.items
body_report f P (RequiredNames k) v Q = (required_answers k.value).report true v Q

-- and at its first step that refuses
abbrev pub body_first : {W : Type 0} → (W → Data → Path → List Fault) → Path → Body W → Data → Path → List Fault
body_first f P True v Q = []
body_first f P False v Q = fault FalseSchema v Q P ∷ []
body_first f P (Keywords ks) v Q = first_of (λ k. f k v Q) ks.items
body_first f P (RequiredNames k) v Q = (required_answers k.value).first true v Q

-- what a body shows at its place
abbrev pub body_tree : {W : Type 0} → (W → Data → Path → Tree) → Path → Body W → Data → Path → Tree
body_tree f P True v Q = plain P Q []
body_tree f P False v Q = erring P Q (fault FalseSchema v Q P ∷ [])
body_tree f P (Keywords ks) v Q = plain P Q (map (λ k. f k v Q) ks.items)
body_tree f P (RequiredNames k) v Q = erring P Q ((required_answers k.value).report true v Q)

-- whether all of a body have their form
abbrev pub body_formed : {W : Type 0} → (W → Bool) → Body W → Bool
body_formed f True = true
body_formed f False = true
body_formed f (Keywords ks) = list_all f ks.items
body_formed f (RequiredNames k) = true

-- what stands there: itself, and what its keywords have
abbrev pub body_forms : {W : Type 0} → (W → List Placed) → Path → Body W → List Placed
body_forms f P True = (P, true_form) ∷ []
body_forms f P False = (P, false_form) ∷ []
body_forms f P (Keywords ks) = (P, object_form) ∷ flat_map f ks.items
body_forms f P (RequiredNames k) = (P, names_form) ∷ []

module _ {W : Type 0} (q : W → Data → Question) (f : W → Data → Path → List Fault) (u : Bool) (h : (k : W) (v : Data) (Q : Path) → is_empty (f k v Q) ≡ (q k v).accepts u) (P : Path) where
  pub body_agrees : (b : Body W) (v : Data) (Q : Path) → is_empty (body_report f P b v Q) ≡ (body_means q b v).accepts u
  body_agrees True v Q = refl
  body_agrees False v Q = refl
  body_agrees (Keywords ks) v Q = each_agrees (λ k. f k v Q) (λ k. q k v) u (λ k. h k v Q) ks.items
  body_agrees (RequiredNames k) v Q = (required_answers k.value).agrees true v Q

  pub body_first_agrees : (b : Body W) (v : Data) (Q : Path) → is_empty (body_first f P b v Q) ≡ (body_means q b v).accepts u
  body_first_agrees True v Q = refl
  body_first_agrees False v Q = refl
  body_first_agrees (Keywords ks) v Q = first_of_agrees (λ k. f k v Q) (λ k. q k v) u (λ k. h k v Q) ks.items
  body_first_agrees (RequiredNames k) v Q = (required_answers k.value).first_agrees true v Q

-- of a place, over what its keywords answer
abbrev pub body_answers : {W : Type 0} → (W → Answers) → Path → Body W → Answers
body_answers f P b = record {
  means = body_means (λ k. (f k).means) b;
  report = λ u. body_report (λ k. (f k).report u) P b;
  agrees = λ u. body_agrees (λ k. (f k).means) (λ k. (f k).report u) u (λ k. (f k).agrees u) P b;
  first = λ u. body_first (λ k. (f k).first u) P b;
  first_agrees = λ u. body_first_agrees (λ k. (f k).means) (λ k. (f k).first u) u (λ k. (f k).first_agrees u) P b;
  tree = λ u. body_tree (λ k. (f k).tree u) P b;
  location = P;
  formed = body_formed (λ k. (f k).formed) b;
  forms = body_forms (λ k. (f k).forms) P b;
}
