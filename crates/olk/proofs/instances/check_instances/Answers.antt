use Rattle.std.proofs.Common.{◌++◌, arith, length-append, subst}
use Rattle.serde_json.specs.View.{view}
use Rattle.olk_base.specs.Kit.{world}
use Rattle.olk.specs.Statuses.{IsChecked}
use Rattle.olk.proofs.Checked.{checked_append}
use Rattle.olk.proofs.instances.check_instances.Goals as goal

pub loop-path-preserved : goal.loop-path-preserved
loop-path-preserved g c =
    let before = c.loop-path.invariant in
    let next = c.in_ok-check_path.ensures in
    let new = c.check_path.new.console.status in
    let since = subst (λ s. IsChecked (world g.K.Leaf g.R.RegexEngine) (view c.args.checker.now.schema.now) s next.0 new) c.tell_progress.ensures next.1 in
    (before.0 ++ next.0, checked_append (world g.K.Leaf g.R.RegexEngine) (view c.args.checker.now.schema.now) c.args.console.now.status c.loop-path.console.status new before.0 next.0 before.1 since, λ h. omega (arith, length-append before.0 next.0, before.2 h, next.2 h))
