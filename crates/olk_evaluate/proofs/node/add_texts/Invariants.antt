use Rattle.std.proofs.Common.{◌≡◌, None, [], false, map}
use Rattle.olk_spec.specs.Names.{is_empty}
use Rattle.olk_base.specs.Lawful.{texts_of}
use Rattle.olk_reports.specs.Evaluations.{shown, shown_of}
use Rattle.olk_evaluate.proofs.node.add_texts.Given as goal

abbrev pub invariant-loop-text : goal.invariant-loop-text
invariant-loop-text g l = shown_of l.outcome ≡ shown (is_empty (texts_of l.yielded)) None (map (λ t. (g.K.Leaf.keyword_of l.leaf, t, false)) (texts_of l.yielded)) []
