use Rattle.std.proofs.Common.{◌≡◌, length, min, ap, sym, ◌∙◌}
use Rattle.std.specs.List.{zip}
use Rattle.olk_tree.specs.Sorted.{names_of}
use Rattle.olk_tree.proofs.Walked.{cut_within, cut_zip}
use Rattle.olk_tree.proofs.entries.Entries.of.Given.{Over}
use Rattle.olk_tree.proofs.entries.Entries.of.Goals as goal

count : (g : Over) (c : goal.After-as_slice g) → c.min-count.result ≡ min (length (names_of c.as_slice.result.now)) (length c.args.nodes.now)
count g c = c.min-count.ensures ∙ ap (λ n. min n (length c.args.nodes.now)) (c.len.ensures.len ∙ ap length (sym c.as_slice.ensures.names))

pub invariant_of-result : goal.invariant_of-result
invariant_of-result g c = cut_within c.as_slice.result.now c.args.nodes.now c.min-count.result (count g c) c.as_slice.ensures.ordered

pub returns : goal.returns
returns g c = cut_zip c.as_slice.result.now c.args.nodes.now c.min-count.result (count g c) ∙ ap (λ ks. zip ks c.args.nodes.now) c.as_slice.ensures.names
