-- What an evaluation is to show, and what it shows.
use Rattle.std.specs.Prelude.{◌≡◌, ⊤, ℕ, length, Bool, true, false, not, List, [], ◌∷◌, map, None, IsPermutation}
use Rattle.serde_json.specs.Data.{Data}
use Rattle.std.specs.List.{list_all}
use Rattle.olk_spec.specs.Names.{Name, Text, Path, filter_once, put_if, is_empty}
use Rattle.olk_spec.specs.Faults.{fault, Required}
use Rattle.olk_spec.specs.Tree.{Tree, IsLikeTree, is_valid, Described, erring}
use Rattle.olk_spec.specs.Accepts.{missing}
use Rattle.olk_reports.specs.Evaluations.{Shown, shown, node_at, with_children}
use Rattle.olk_tree.specs.Bodies.{body_means, body_tree}
use Rattle.olk_tree.specs.Questions.{Question}
use Rattle.olk_tree.specs.declared.node.Body.{Body}

-- a tree, and whether it is to be valid
abbrev pub Wanted : Type 0
Wanted = Tree × Bool

pub record IsShown (w : Wanted) (t : Tree) : Type 0 where
  pub like : IsLikeTree w.0 t
  pub verdict : is_valid t ≡ w.1

abbrev pub AreShown : List Wanted → List Tree → Type 0
AreShown [] [] = ⊤
AreShown [] (t ∷ ts) = ⊥
AreShown (w ∷ ws) [] = ⊥
AreShown (w ∷ ws) (t ∷ ts) = IsShown w t × AreShown ws ts

-- new is old with children more, which show what is wanted
pub record ShowsMore (ws : List Wanted) (old new : Shown) : Type 0 where
  pub added : List Tree
  pub is : new ≡ with_children added old
  pub shown : AreShown ws added

-- children that show what is wanted, and nothing else, refused
pub record ShowsRefusing (ws : List Wanted) (s : Shown) : Type 0 where
  pub children : List Tree
  pub is : s ≡ shown false None [] children
  pub shown : AreShown ws children

-- these children, and nothing else; where there is none, all that is wanted, refused
abbrev pub ShowsThese : List Wanted → List Tree → Shown → Type 0
ShowsThese all [] s = ShowsRefusing all s
ShowsThese all (t ∷ ts) s = s ≡ shown (list_all is_valid (t ∷ ts)) None [] (t ∷ ts)

module _ {N : Type 0} (t : N → Bool → Data → Path → Tree) (m : N → Data → Question) (u : Bool) where
  -- what a node is to show of a value at a path
  abbrev pub wanted : N → Data → Path → Wanted
  wanted n v Q = (t n u v Q, (m n v).accepts u)

  abbrev pub each_wanted : List N → Data → Path → List Wanted
  each_wanted ns v Q = map (λ n. wanted n v Q) ns

  -- what those of these nodes show that accept, which are so many; where there is none, what each shows, refused
  pub record ShowsAccepting (ns : List N) (v : Data) (Q : Path) (count : ℕ) (s : Shown) : Type 0 where
    pub accepting : List Tree
    pub those : AreShown (each_wanted (filter_once (λ n. (m n v).accepts u) ns) v Q) accepting
    pub number : count ≡ length accepting
    pub shown : ShowsThese (each_wanted ns v Q) accepting s

  -- what a body shows
  abbrev pub ShowsBody : Body N → Data → Path → Shown → Type 0
  ShowsBody b v Q s = (P : Path) → IsShown (body_tree (λ n. t n u) P b v Q, (body_means m b v).accepts u) (node_at P Q s)

-- trees that are to be valid
abbrev pub accepted : List Tree → List Wanted
accepted = map (λ t. (t, true))

-- trees that are to be invalid
abbrev pub refused : List Tree → List Wanted
refused = map (λ t. (t, false))

-- one tree with the faults of v at the names that w lacks, where it lacks one
abbrev pub lacking_trees : List Name → Data → Data → Path → Path → List Tree
lacking_trees ns v w P Q = put_if (not (is_empty (missing ns w))) (erring P Q (map (λ n. fault (Required n) v Q P) (missing ns w))) []

-- texts of a keyword as own errors, in any order, and nothing else
pub record HasTexts (k : Name) (texts : List Text) (s : Shown) : Type 0 where
  pub own : List Described
  pub is : s ≡ shown (is_empty texts) None own []
  pub told : IsPermutation (map (λ t. (k, t, false)) texts) own
