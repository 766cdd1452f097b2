-- What asking the nodes of a dependency comes to, over what a walk has left at its start.
use Rattle.std.proofs.Common.{◌≡◌, Bool, List, [], ◌∷◌, ap, Ok}
use Rattle.serde_json.specs.Data.{Data, Members, object}
use Rattle.olk_spec.specs.Names.{Name, Path}
use Rattle.olk_spec.specs.Faults.{Fault}
use Rattle.olk_spec.specs.Schemas.{listed}
use Rattle.olk_tree.specs.Questions.{Question, every}
use Rattle.olk_tree.specs.Dependencies.{due_nodes}
use Rattle.olk_tree.specs.PropertyDependencies.{chosen_nodes}
use Rattle.olk_tree.specs.Visited.{names_met, left_of}
use Rattle.olk_tree.specs.declared.map.SmallMap.{SmallMap}
use Rattle.olk_tree.specs.declared.declared.DeclaredMembers.{DeclaredMembers}
use Rattle.olk_base.specs.Lawful.{Asking}
use Rattle.olk_check.specs.Asks.{OnlyAsks, IsAnswer}
use Rattle.olk_tree.proofs.Due.{every_due, each_due, first_due, chosen, every_chosen, each_chosen, first_chosen}
use Rattle.olk_errors.specs.Outcomes.{of_each, of_node, of_branches}
use Rattle.olk_errors.specs.Sinks.{Walks}
use Rattle.olk_errors.specs.declared.sink.ErrorSink.{ErrorSink}
use Rattle.olk_errors.proofs.Sinks.{walks_past}
use Rattle.olk_errors.proofs.Loops.{each_one}

module _ {N : Type 0} (m : N → Data → Question) (s r : N → Bool → Data → Path → List Fault) (u : Bool) (v : Data) (Q : Path) where
  -- of one branch
  pub one_branch : (n : N) → of_node m s r u n v Q ≡ of_branches m s r u (n ∷ []) v Q
  one_branch n = each_one (λ k. m k v) u (λ k. s k u v Q) (λ k. r k u v Q) n

  module _ (ms : Members) (is : v ≡ object ms) where
    pub due_of_walk : (es : List (Name × N)) {w x : DeclaredMembers N} → w ≡ x → left_of x ≡ names_met es (listed ms)
        → of_each u (λ d. m d.node v) (λ d. s d.node u v Q) (λ d. r d.node u v Q) (left_of w) ≡ of_branches m s r u (due_nodes es v) v Q
    due_of_walk es same whole = λ i. record {
      accepts = (every_due ms es same whole v is (λ n. m n v) i).accepts u;
      first = first_due ms es same whole v is (λ n. s n u v Q) i;
      all = each_due ms es same whole v is (λ n. r n u v Q) i;
    }

    pub chosen_of_walk : (es : List (Name × SmallMap N)) {w x : DeclaredMembers (SmallMap N)} → w ≡ x → left_of x ≡ names_met es (listed ms)
        → of_each u (λ d. every (λ n. m n v) (chosen d)) (λ d. (of_branches m s r u (chosen d) v Q).first) (λ d. (of_branches m s r u (chosen d) v Q).all) (left_of w)
        ≡ of_branches m s r u (chosen_nodes es v) v Q
    chosen_of_walk es same whole = λ i. record {
      accepts = (every_chosen ms es same whole v is (λ n. m n v) i).accepts u;
      first = first_chosen ms es same whole v is (λ n. s n u v Q) i;
      all = each_chosen ms es same whole v is (λ n. r n u v Q) i;
    }

-- where nothing is asked
module _ {N : Type 0} (m : N → Data → Question) (s r : N → Bool → Data → Path → List Fault) (v : Data) (Q : Path) where
  pub past_none : {T : Type 0} {y : T} {ns : Bool → List N} {sink : ErrorSink} {a b : Asking} → OnlyAsks a b → ((u : Bool) → IsAnswer a b u → ns u ≡ [])
      → Walks (Ok y) sink sink a b (λ u. of_branches m s r u (ns u) v Q)
  past_none only none = walks_past only (λ u so. ap (λ l. of_branches m s r u l v Q) (none u so))
