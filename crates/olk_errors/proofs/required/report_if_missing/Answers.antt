use Rattle.std.proofs.Common.{refl}
use Rattle.serde_json.specs.View.{members_view}
use Rattle.olk_errors.proofs.Missing.{there_past, lacked_own}
use Rattle.olk_errors.proofs.Own.{ends_own}
use Rattle.olk_errors.proofs.required.report_if_missing.Goals as goal

pub returns-then-is_present : goal.returns-then-is_present
returns-then-is_present c = there_past (members_view c.args.members.now.entries) _ c.requires c.args.name.now c.is_present.ensures c.args.location.now _ c.if-is_present.true

pub returns : goal.returns
returns c = ends_own (lacked_own (members_view c.args.members.now.entries) _ c.requires c.args.name.now c.is_present.ensures c.args.location.now
    _ c.if-is_present.false refl) c.report_absent.ensures
