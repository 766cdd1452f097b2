-- What asking a place of a document comes to.
use Rattle.std.proofs.Common.{◌≡◌, Bool, true, sym, ap, ◌∙◌, Result, Ok}
use Rattle.serde_json.specs.Data.{Data}
use Rattle.olk_spec.specs.Names.{Path, is_empty}
use Rattle.olk_spec.proofs.Logic.{nil_of_is_empty}
use Rattle.olk_base.specs.Lawful.{Asking}
use Rattle.olk_tree.specs.Answers.{Meanings, Findings}
use Rattle.olk_check.specs.Asks.{Asks}
use Rattle.olk_check.proofs.Asked.{verdict_of}
use Rattle.olk_errors.specs.Outcomes.{of_node, of_body, of_branches}
use Rattle.olk_base.specs.Kit.{Kit}
use Rattle.olk_tree.specs.Validators.{validator_means, validator_report, validator_first}
use Rattle.olk_documents.specs.Nodes.{answers, more_of}
use Rattle.olk_documents.specs.declared.node.DocumentNode.{DocumentNode, out-DocumentNode}
use Rattle.olk_documents.proofs.Layers.{node_means, node_finds, node_first}
use Rattle.olk_errors.specs.Found.{Outcome}
use Rattle.olk_errors.specs.Sinks.{Walks}
use Rattle.olk_errors.specs.declared.sink.ErrorSink.{ErrorSink}
use Rattle.olk_errors.specs.declared.sink.Stop.{Stop}
use Rattle.olk_errors.proofs.Sinks.{after, walks_past, walks_after}

-- a node that accepts finds nothing
module _ {N : Type 0} (m : Meanings N) (s r : Findings N) {n : N} {v : Data} {a b : Asking} (h : Asks a b (m n v) true) where
  pub node_past : (Q : Path) {T : Type 0} {y : T} {sink : ErrorSink} → ((u : Bool) → is_empty (r n u v Q) ≡ (m n v).accepts u) → ((u : Bool) → is_empty (s n u v Q) ≡ (m n v).accepts u)
      → Walks (Ok y) sink sink a b (λ u. of_node m s r u n v Q)
  node_past Q all first = walks_past h.only (λ u so. let accepted = sym (verdict_of h so) in λ i. record {
    accepts = accepted i;
    first = nil_of_is_empty (s n u v Q) (first u ∙ accepted) i;
    all = nil_of_is_empty (r n u v Q) (all u ∙ accepted) i;
  })

-- one walk and then another
pub walks_both : (o p : Bool → Outcome) {S T : Type 0} {y : S} {r : Result T Stop} {old mid new : ErrorSink} {a b c : Asking} → Walks (Ok y) old mid a b o → Walks r mid new b c p
    → Walks r old new a c (λ u. after (o u) (p u))
walks_both o p h k = walks_after (λ u so. (h.ends u so).so) h.only k

module _ {K R : Type 0} (o : Kit K R) (n : DocumentNode K R) (v : Data) (Q : Path) where
  abbrev means : Meanings (DocumentNode K R)
  means k = (answers o k).means

  abbrev finds : Findings (DocumentNode K R)
  finds k = (answers o k).report

  abbrev finds_first : Findings (DocumentNode K R)
  finds_first k = (answers o k).first

  -- at the place P
  abbrev of_layer : Path → Bool → Outcome
  of_layer P u = of_body (validator_means o means) (λ k u. validator_first o means finds u finds_first k) (λ k u. validator_report o means finds u k) u P (out-DocumentNode K R n).body v Q

  abbrev of_more : Bool → Outcome
  of_more u = of_branches (λ k. (more_of k).means means) (λ k. (more_of k).first means finds finds_first) (λ k. (more_of k).report means finds) u (out-DocumentNode K R n).more.items v Q

  pub node_outcome : (P : Path) → P ≡ (out-DocumentNode K R n).location → (u : Bool) → after (of_layer P u) (of_more u) ≡ of_node means finds_first finds u n v Q
  node_outcome P at u = ap (λ P. after (of_layer P u) (of_more u)) at ∙ sym (λ i. record { accepts = (node_means o n v i).accepts u; first = node_first o n u v Q i; all = node_finds o n u v Q i })
