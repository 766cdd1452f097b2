-- The members that `properties` and `patternProperties` meet.
use Rattle.std.specs.Prelude.{◌≡◌, Bool, List, [], map, Some}
use Rattle.std.specs.List.{list_all}
use Rattle.serde_json.specs.Data.{Data}
use Rattle.olk_spec.specs.Names.{Path, ◌//◌}
use Rattle.olk_spec.specs.Tree.{Tree, is_valid}
use Rattle.olk_reports.specs.Evaluations.{Shown, shown, with_children, with_names}
use Rattle.olk_tree.specs.Questions.{Question}
use Rattle.olk_tree.specs.Visited.{Declared}
use Rattle.olk_evaluate.specs.Wanted.{Wanted, AreShown, wanted}

module _ {N : Type 0} where
  -- what is wanted of the value of a declared member
  abbrev pub wanted_at : (N → Bool → Data → Path → Tree) → (N → Data → Question) → Bool → Path → Declared N → Wanted
  wanted_at t m u Q d = wanted t m u d.node d.value (Q // d.name)

  -- the names of these members are annotated, and what is wanted of their values are the children; with this verdict
  pub record HasMet (want : Declared N → Wanted) (ds : List (Declared N)) (verdict : Bool) (s : Shown) : Type 0 where
    pub children : List Tree
    pub is : s ≡ shown (list_all is_valid children) (Some (map (λ d. d.name) ds)) [] children
    pub shown : AreShown (map want ds) children
    pub valid : list_all is_valid children ≡ verdict

  -- new is old with these members met too
  pub record MeetsMore (want : Declared N → Wanted) (ds : List (Declared N)) (old new : Shown) : Type 0 where
    pub added : List Tree
    pub is : new ≡ with_names (map (λ d. d.name) ds) (with_children added old)
    pub shown : AreShown (map want ds) added
