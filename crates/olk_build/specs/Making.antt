-- What making the validators of a schema object from its parts promises.
use Rattle.std.specs.Prelude.{◌≡◌, true, false, Bool, List, [], ◌∷◌, map, codes, Option, Some, option_to_list}
use Rattle.std.specs.List.{flat_map}
use Rattle.serde_json.specs.Data.{Data, Members}
use Rattle.olk_spec.specs.Names.{Name, Path, ◌//◌, lookup_name}
use Rattle.olk_base.specs.Kit.{Kit}
use Rattle.olk_meaning.specs.Plans.{Planned, plan_of, head, claims}
use Rattle.olk_meaning.specs.Members.{member_child, member_standing, StandsAlone, StandsByItself}
use Rattle.olk_build.specs.Standing.{which, all_malformed, show, all_formed, stand, HoldsMember, Covers, StandAt, is_taken, is_if_shape, is_restriction_shape, RestStands, CasesStand, BesideStands}
use Rattle.olk_meaning.specs.Conditions.{is_condition, known_of}
use Rattle.olk_build.specs.Reading.{reads_of, IsShape, Fits}
use Rattle.olk_build.specs.declared.shape.Shape.{Shape}
use Rattle.olk_spec.specs.{Schemas.listed, Malformed.has_repeat}
use Rattle.olk_tree.specs.{declared.node.KeywordOver.KeywordOver, Answers.Answers}
use Rattle.olk_build.specs.{Chooser.IsChosen, declared.part.Cases.Cases, declared.part.Beside.Beside, declared.part.TakenNeighbours.TakenNeighbours}
use Rattle.olk_tree.specs.Steps.{StandsBy, StepsOf}

module _ {K R N : Type 0} {o : Kit K R} (I : StepsOf o) (answers : N → Answers) where
  module _ (ms : Members) (ks : List (KeywordOver K R N)) where
    -- in the schema object with the members ms at P, the keywords mean what the rows mean together, show what the members es show, have their form, and are the validators of these members
    pub record KeywordsMean (rows es : List (Name × Data)) (P : Path) : Type 0 where
      pub covers : Covers I answers ms ks rows P
      pub shows : all_malformed I ms P (listed ms) ≡ [] → (u : Bool) (v : Data) (Q : Path) → show I answers ms ks u v Q ≡ flat_map (λ m. member_child I.steps ms m (which o ms m) u v P Q) es
      pub formed : all_formed I answers ms ks ≡ true
      pub forms : all_malformed I ms P (listed ms) ≡ [] → stand I answers ms ks ≡ flat_map (λ m. member_standing I.steps ms m (which o ms m) P) es

    -- they mean what the object means
    abbrev pub ObjectIsMade : Path → Type 0
    ObjectIsMade P = KeywordsMean (listed ms) (listed ms) P

    -- the same for one member and no neighbours
    pub record KeywordMeans (m : Name × Data) (P : Path) : Type 0 where
      pub holds : HoldsMember I answers ms ks m (which o ms m) P
      pub shows : (u : Bool) → StandsAlone I.steps u ms m (which o ms m) → (v : Data) (Q : Path) → show I answers ms ks u v Q ≡ member_child I.steps ms m (which o ms m) u v P Q
      pub formed : all_formed I answers ms ks ≡ true
      pub forms : StandsByItself I.steps ms (which o ms m) → stand I answers ms ks ≡ member_standing I.steps ms m (which o ms m) P

  -- keywords that are made of a shape and nodes at L mean the member whose part these are, in each object
  abbrev pub MakesMember : Shape K R → Path → List N → List (KeywordOver K R N) → Type 0
  MakesMember x L ns ks = (ms : Members) (m : Name × Data) (P : Path) → L ≡ P // m.0 → IsShape o m.0 m.1 x → StandAt I answers (reads_of x) ns m.1 L → KeywordMeans ms ks m P

  -- and what it claims in each object at P that has this plan, where no other keyword takes what it holds
  abbrev pub MakesClaims : Shape K R → Path → List N → Path → Planned → List (KeywordOver K R N) → Type 0
  MakesClaims x L ns P p ks = (ms : Members) (m : Name × Data) → L ≡ P // m.0 → IsShape o m.0 m.1 x → StandAt I answers (reads_of x) ns m.1 L
      → has_repeat (map (λ m. m.0) (listed ms)) ≡ false → lookup_name m.0 (listed ms) ≡ Some m.1 → p ≡ plan_of ms → is_taken p m.0 ≡ false
      → KeywordsMean ms ks (claims (head p) (listed ms) m) (m ∷ []) P

  -- keywords that are made of the nodes of `if`, `then` and `else` mean all three, in each object where `if` is read
  abbrev pub MakesCondition : Path → N → Cases N → List (KeywordOver K R N) → Type 0
  MakesCondition L n cs ks = (ms : Members) (d : Data) (P : Path) → L ≡ P // codes "if" → StandsBy I answers n d L → CasesStand I answers cs ms P
      → has_repeat (map (λ m. m.0) (listed ms)) ≡ false → lookup_name (codes "if") (listed ms) ≡ Some d → is_condition ms ≡ true
      → KeywordsMean ms ks (claims (head (plan_of ms)) (listed ms) (codes "if", d)) ((codes "if", d) ∷ []) P

  -- keywords that are made of the node of `additionalProperties` and of what stands beside it mean all that it takes over, in each object at P that has this plan and where it restricts other members
  abbrev pub MakesRestriction : Path → Option N → Beside R N → Path → Planned → List (KeywordOver K R N) → Type 0
  MakesRestriction L rest b P p ks = (ms : Members) (d : Data) → L ≡ P // codes "additionalProperties" → RestStands I answers rest d L → BesideStands I answers (known_of ms) b ms P
      → has_repeat (map (λ m. m.0) (listed ms)) ≡ false → lookup_name (codes "additionalProperties") (listed ms) ≡ Some d → p ≡ plan_of ms
      → KeywordsMean ms ks (claims (head p) (listed ms) (codes "additionalProperties", d)) ((codes "additionalProperties", d) ∷ []) P

  -- keywords that are made of a part that stays mean what its member claims, in each object at P that has this plan; `if` and `additionalProperties` take what was taken for them
  abbrev pub MakesPart : Shape K R → Path → List N → TakenNeighbours R N → Path → Planned → List (KeywordOver K R N) → Type 0
  MakesPart x L ns t P p ks = (ms : Members) (m : Name × Data) → L ≡ P // m.0 → IsShape o m.0 m.1 x → Fits o (known_of ms) x → StandAt I answers (reads_of x) ns m.1 L
      → (is_if_shape x ≡ true → CasesStand I answers t.cases ms P) → (is_restriction_shape x ≡ true → BesideStands I answers (known_of ms) t.beside ms P)
      → has_repeat (map (λ m. m.0) (listed ms)) ≡ false → lookup_name m.0 (listed ms) ≡ Some m.1 → p ≡ plan_of ms → is_taken p m.0 ≡ false
      → KeywordsMean ms ks (claims (head p) (listed ms) m) (m ∷ []) P

  -- what is made of the member m of the schema object with the members ms at P: it means all that the member's validator stands for, and is that validator
  pub record IsMadeOf (ms : Members) (m : Name × Data) (P : Path) (r : Option (KeywordOver K R N)) : Type 0 where
    pub means : KeywordsMean ms (option_to_list r) (claims (head (plan_of ms)) (listed ms) m) (m ∷ []) P
    pub chosen : IsChosen ms P (which o ms m) m r
