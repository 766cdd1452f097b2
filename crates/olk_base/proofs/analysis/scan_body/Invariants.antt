use Rattle.std.proofs.Common.{◌≤◌, length, chars, string_bytes}
use denote.Text.{Utf8}
use denote.Shadow.{shadow}
use Rattle.olk_base.proofs.Scan.{HasRead}
use Rattle.olk_base.proofs.analysis.scan_body.Given as goal

abbrev pub invariant-loop-c : goal.invariant-loop-c
invariant-loop-c l = record {
  utf8 : shadow (Utf8 l.rest);
  read : HasRead (chars l.fn.pattern) (string_bytes l.text) (chars l.rest);
  shorter : length l.rest ≤ length l.fn.pattern;
}

abbrev pub decreases-loop-c : goal.decreases-loop-c
decreases-loop-c l = length l.rest
