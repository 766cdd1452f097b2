use Rattle.std.proofs.Common.{length, chars, string_bytes, map}
use denote.Text.{Utf8}
use denote.Shadow.{shadow}
use Rattle.olk_base.proofs.Bodies.{HasBodies}
use Rattle.olk_base.proofs.analysis.scan_alternation.Given as goal

abbrev pub invariant-loop-texts : goal.invariant-loop-texts
invariant-loop-texts l = record {
  utf8 : shadow (Utf8 l.rest);
  read : HasBodies (chars l.fn.pattern) (map string_bytes l.texts.items) (chars l.rest);
}

abbrev pub decreases-loop-texts : goal.decreases-loop-texts
decreases-loop-texts l = length l.rest
