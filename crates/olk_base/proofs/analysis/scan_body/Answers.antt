use Rattle.std.proofs.Common.{rules, arith}
use Rattle.olk_base.proofs.Scan.{HasRead-more}
use Rattle.olk_base.proofs.analysis.scan_body.Goals as goal

pub loop-c-preserved : goal.loop-c-preserved
loop-c-preserved c = record {
  utf8 = search rules;
  read = rw c.in_ok-push.ensures.bytes (HasRead-more _ _ _ _ _ c.loop-c.invariant.read c.in-Some.ensures.body);
  shorter = omega (arith, c.in-Some.ensures.shorter);
}
