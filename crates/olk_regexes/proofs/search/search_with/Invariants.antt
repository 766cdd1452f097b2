use Rattle.std.proofs.Common.{◌≡◌, length}
use Rattle.olk_regexes.specs.Live.{IsDead}
use Rattle.olk_regexes.specs.Marks.{size}
use Rattle.olk_regexes.proofs.Found.{Found}
use Rattle.olk_regexes.proofs.search.search_with.Given as goal

abbrev pub invariant-loop-c : goal.invariant-loop-c
invariant-loop-c l = (length l.marks ≡ size l.regex) × (Found l.regex l.empty l.yielded l.found.ended l.marks) × (IsDead l.found.live l.marks)
