use Rattle.std.proofs.Common.{◌≡◌, drop}
use Rattle.std.specs.List.{list_any}
use Rattle.serde_json.specs.View.{items_view}
use Rattle.olk_base.specs.Nodes.{data_of}
use Rattle.olk_spec.specs.Malformed.{items_list}
use Rattle.olk_vocabulary.specs.Same.{same_value}
use Rattle.olk_vocabulary.proofs.equality.is_candidate.Given as goal

abbrev pub invariant-loop-value : goal.invariant-loop-value
invariant-loop-value l =
    list_any (λ d. same_value d (data_of l.node)) (items_list (items_view l.value-items)) ≡ list_any (λ d. same_value d (data_of l.node)) (items_list (items_view (drop l.value-index l.value-items)))
