-- What the nodes and the patterns beside `additionalProperties` stand for.
use Rattle.std.specs.Prelude.{◌≡◌, ◌≤◌, ⊤, ℕ, Bool, true, false, List, [], ◌∷◌, map, codes, Option, Some, None, is_some, slice_get}
use Rattle.serde_json.specs.Data.{Data, Members}
use Rattle.olk_spec.specs.Names.{Name, Text, Path, ◌//◌}
use Rattle.olk_spec.specs.Faults.{Fault, ◌∼◌}
use Rattle.olk_spec.specs.Schemas.{is_object, is_truth}
use Rattle.olk_spec.specs.Malformed.{has_repeat}
use Rattle.olk_spec.specs.Meanings.{pattern_says, is_open}
use Rattle.olk_meaning.specs.Steps.{accepts, asks, report, tree}
use Rattle.olk_spec.specs.Tree.{Tree}
use Rattle.olk_base.specs.Kit.{Kit}
use Rattle.olk_tree.specs.Steps.{StepsOf}
use Rattle.olk_base.specs.Compiled.{pattern_answers, pattern_costs}
use Rattle.olk_base.specs.declared.pattern.CompiledPattern.{CompiledPattern}
use Rattle.olk_meaning.specs.AdditionalProperties.{declared_beside, patterns_beside, required_beside, declares_beside, matches_beside}
use Rattle.olk_tree.specs.Questions.{Question, of_asked}
use Rattle.olk_tree.specs.Additional.{Held, Sides, placed, sides_of, required_text, required_place}
use Rattle.std.specs.List.{zip}

-- m, r and t are what nodes mean, report and show
module _ {K R N : Type 0} {o : Kit K R} (I : StepsOf o) (m : N → Data → Question) (r : N → Bool → Data → Path → List Fault) (t : N → Bool → Data → Path → Tree) where
  -- a node answers as the schema S at the place P
  pub record AnswersAs (n : N) (S : Data) (P : Path) : Type 0 where
    pub verdict : (u : Bool) (v : Data) → (m n v).accepts u ≡ accepts I.steps u S v
    pub asks_within : (u : Bool) (v : Data) → (m n v).asks of_asked u ≤ asks I.steps u S v
    pub faults : (u : Bool) (v : Data) (Q : Path) → r n u v Q ∼ report I.steps u S v P Q
    pub shows : (u : Bool) (v : Data) (Q : Path) → t n u v Q ≡ tree I.steps u S v P Q

  -- nodes for schemas under names, below a place
  abbrev pub EntriesAnswer : List N → List (Name × Data) → Path → Type 0
  EntriesAnswer [] [] L = ⊤
  EntriesAnswer [] (e ∷ es) L = ⊥
  EntriesAnswer (n ∷ ns) [] L = ⊥
  EntriesAnswer (n ∷ ns) (e ∷ es) L = AnswersAs n e.1 (L // e.0) × EntriesAnswer ns es L

  -- a pattern says of names what its text says, and costs what the text costs
  pub record SaysAs (p : CompiledPattern R) (text : Text) : Type 0 where
    pub answers : (n : Name) → pattern_answers o.answers p n ≡ pattern_says o.world text n
    pub costs : pattern_costs o.costs p ≡ is_open o.world text

  -- patterns and their nodes for schemas under texts, below a place
  abbrev pub PatternsAnswer : List (CompiledPattern R × N) → List (Name × Data) → Path → Type 0
  PatternsAnswer [] [] L = ⊤
  PatternsAnswer [] (e ∷ es) L = ⊥
  PatternsAnswer (p ∷ ps) [] L = ⊥
  PatternsAnswer (p ∷ ps) (e ∷ es) L = SaysAs p.0 e.0 × AnswersAs p.1 e.1 (L // e.0) × PatternsAnswer ps es L

  -- without a node for the rest it is false, and with one an object that the node answers as
  abbrev pub RestAnswers : Option N → Data → Path → Type 0
  RestAnswers None d L = is_truth false d ≡ true
  RestAnswers (Some n) d L = (is_object d ≡ true) × AnswersAs n d L

  -- in a schema object at P all stands for the schemas fs, declared under their names, es, under their patterns, and d, the rest
  pub record SidesStand (S : Sides R N) (fs es : List (Name × Data)) (d : Data) (P : Path) : Type 0 where
    pub nodes : List N
    pub placed_zip : S.declared ≡ zip (map (λ e. e.0) fs) (placed nodes)
    pub declared : EntriesAnswer nodes fs (P // codes "properties")
    pub patterns : PatternsAnswer S.patterns es (P // codes "patternProperties")
    -- what is known at the place of a declared name is what the pattern says of it
    pub known : (p i : ℕ) (n : Name) (c : CompiledPattern R) → slice_get (map (λ e. e.0) fs) p ≡ Some n → slice_get (map (λ e. e.0) S.patterns) i ≡ Some c → S.known p i ≡ pattern_answers o.answers c n
    pub rest : RestAnswers S.rest d (P // codes "additionalProperties")

  -- in the schema object with the members ms at P the validator stands for `additionalProperties` of the value d and all that it takes over
  pub record RestrictionStands (k : Held R N) (ms : Members) (d : Data) (P : Path) : Type 0 where
    pub sides : SidesStand (sides_of k) (declared_beside ms) (patterns_beside ms) d P
    pub declares : is_some k.properties ≡ declares_beside ms
    pub has_patterns : is_some k.patterns ≡ matches_beside ms
    pub requires : required_text k.required ≡ required_beside ms
    pub place : k.location ≡ P // codes "additionalProperties"
    pub patterns_place : is_some k.patterns ≡ true → is_some k.properties ≡ false → k.patterns_location ≡ P // codes "patternProperties"
    pub required_place : is_some k.required ≡ true → required_place k.required ≡ P // codes "required"
    pub declared_once : has_repeat (map (λ e. e.0) (declared_beside ms)) ≡ false
