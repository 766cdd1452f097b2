-- What a keyword is to show of items, and what a place is to show.
use Rattle.std.specs.Prelude.{Bool, List, map}
use Rattle.serde_json.specs.Data.{Data}
use Rattle.olk_spec.specs.Names.{Name, Path, ◌//◌}
use Rattle.olk_document_spec.specs.Steps.{with_children}
use Rattle.olk_tree.specs.Answers.{Meanings, Showings}
use Rattle.olk_tree.specs.Bodies.{body_means, body_tree}
use Rattle.olk_tree.specs.Questions.{both, every}
use Rattle.olk_tree.specs.declared.node.Body.{Body}
use Rattle.olk_evaluate.specs.Wanted.{Wanted, wanted}

module _ {N : Type 0} (t : Showings N) (m : Meanings N) (u : Bool) where
  -- each item under its position, by the same node
  abbrev pub items_wanted : N → List (Name × Data) → Path → List Wanted
  items_wanted n es Q = map (λ e. wanted t m u n e.1 (Q // e.0)) es

  -- each with a node of its own
  abbrev pub pairs_wanted : List (N × (Name × Data)) → Path → List Wanted
  pairs_wanted es Q = map (λ e. wanted t m u e.0 e.1.1 (Q // e.1.0)) es

-- what a body shows at its place, and behind it these nodes
module _ {N M : Type 0} (t : Showings N) (m : Meanings N) (t' : Showings M) (m' : Meanings M) (u : Bool) where
  abbrev pub place_wanted : Body N → List M → Path → Data → Path → Wanted
  place_wanted b ns P v Q = (with_children (body_tree (λ n. t n u) P b v Q) (map (λ n. t' n u v Q) ns), (both (body_means m b v) (every (λ n. m' n v) ns)).accepts u)
