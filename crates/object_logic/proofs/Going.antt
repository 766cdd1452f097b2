-- What a walk over a place comes to, and what the place shows, by what stands there.
use Rattle.std.proofs.Common.{◌≡◌, Bool, sym, ap, ◌∙◌, Result}
use Rattle.serde_json.specs.Data.{Data}
use Rattle.olk_spec.specs.Names.{Path}
use Rattle.olk_base.specs.Lawful.{Asking}
use Rattle.olk_base.specs.Kit.{Kit}
use Rattle.olk_reports.specs.Evaluations.{Shown, node_at}
use Rattle.olk_tree.specs.Validators.{answers_of}
use Rattle.olk_errors.specs.Found.{Outcome}
use Rattle.olk_errors.specs.Outcomes.{of_node, of_body}
use Rattle.olk_errors.specs.Sinks.{Walks}
use Rattle.olk_errors.specs.declared.sink.ErrorSink.{ErrorSink}
use Rattle.olk_errors.specs.declared.sink.Stop.{Stop}
use Rattle.olk_errors.proofs.Sinks.{walks_same}
use Rattle.olk_evaluate.specs.Wanted.{IsShown, ShowsBody}
use Rattle.olk_evaluate.proofs.Children.{shown_as}
use Rattle.object_logic.specs.Nodes.{answers}
use Rattle.object_logic.specs.declared.node.SchemaNode.{SchemaNode, out-SchemaNode}
use Rattle.object_logic.proofs.Layers.{node_means, node_finds, node_first, node_shows}

module _ {K R : Type 0} (o : Kit K R) (n : SchemaNode K R) (v : Data) (Q : Path) where
  -- what asking its body comes to, at this place
  abbrev of_inside : Path → Bool → Outcome
  of_inside P u = of_body (λ k. (answers_of o k).means (λ x. (answers o x).means))
      (λ k. (answers_of o k).first (λ x. (answers o x).means) (λ x. (answers o x).report) (λ x. (answers o x).first))
      (λ k. (answers_of o k).report (λ x. (answers o x).means) (λ x. (answers o x).report)) u P (out-SchemaNode K R n).body v Q

  inside_is : (u : Bool) → of_inside (out-SchemaNode K R n).location u ≡ of_node (λ x. (answers o x).means) (λ x. (answers o x).first) (λ x. (answers o x).report) u n v Q
  inside_is u = λ i. record { accepts = (sym (node_means o n v) i).accepts u; first = sym (node_first o n u v Q) i; all = sym (node_finds o n u v Q) i }

  pub place_walked : {P : Path} {T : Type 0} {r : Result T Stop} {old new : ErrorSink} {a b : Asking} → P ≡ (out-SchemaNode K R n).location → Walks r old new a b (of_inside P)
      → Walks r old new a b (λ u. of_node (λ x. (answers o x).means) (λ x. (answers o x).first) (λ x. (answers o x).report) u n v Q)
  place_walked at = walks_same (λ u so. ap (λ P. of_inside P u) at ∙ inside_is u)

  pub place_shown : (u : Bool) (s : Shown) → ShowsBody (λ k. (answers_of o k).tree (λ x. (answers o x).means) (λ x. (answers o x).tree)) (λ k. (answers_of o k).means (λ x. (answers o x).means)) u (out-SchemaNode K R n).body v Q s
      → IsShown ((answers o n).tree u v Q, ((answers o n).means v).accepts u) (node_at (out-SchemaNode K R n).location Q s)
  place_shown u s h = shown_as (h (out-SchemaNode K R n).location) (sym (node_shows o n u v Q)) (ap (λ q. q.accepts u) (sym (node_means o n v)))
