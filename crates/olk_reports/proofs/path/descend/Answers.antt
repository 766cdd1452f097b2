use Rattle.std.proofs.Common.{string_bytes}
use Rattle.olk_reports.proofs.Paths.{last_slash-pushed, take-pushed}
use Rattle.olk_reports.proofs.path.descend.Goals as goal

pub returns-in-Ok-clause-last_slash : goal.returns-in-Ok-clause-last_slash
returns-in-Ok-clause-last_slash c = rw (c.in-Ok.ensures.ok, c.len-len.ensures, c.args.text.now.bytes.ok.0) (last_slash-pushed (string_bytes c.args.text.now) c.args.segment.now)

pub returns-in-Ok-clause-back : goal.returns-in-Ok-clause-back
returns-in-Ok-clause-back c = rw (c.in-Ok.ensures.ok, c.len-len.ensures, c.args.text.now.bytes.ok.0) (take-pushed (string_bytes c.args.text.now) c.args.segment.now)
