-- What was taken so far is a part of the first line, and each step takes some of it.
use Rattle.std.proofs.Common.{◌≡◌, List, ℕ, IfSome, Some, vec_len, ◌-◌, ◌^◌, ◌++◌}
use Rattle.olk_answers.specs.Steps.{HasNoFeed}
use Rattle.olk_answers.proofs.reading.read_line.Given as goal

abbrev pub invariant-loop-line : goal.invariant-loop-line
invariant-loop-line g l = record {
  plain : HasNoFeed l.line.items;
  taken : IfSome (g.I.Read.remaining l.fn.reader) (λ xs. (ys : List ℕ) × (g.I.Read.remaining l.reader ≡ Some ys) × (xs ≡ l.line.items ++ ys));
}

abbrev pub decreases-loop-line : goal.decreases-loop-line
decreases-loop-line g l = 2 ^ 64 - vec_len l.line
