use Rattle.std.proofs.Common.{true, false, subst}
use Rattle.serde_json.specs.View.{view}
use Rattle.olk_tree.specs.Additional.{member_means_at, sides_seen}
use Rattle.olk_tree.proofs.Due.{name_next, no_name_next}
use Rattle.olk_check.specs.Asks.{Asks}
use Rattle.olk_check.proofs.Walks.{all_go_on, all_stop, all_end}
use Rattle.olk_check.proofs.additional_properties.each_accepted.Goals as goal

pub returns-then-not-member_accepted : goal.returns-then-not-member_accepted
returns-then-not-member_accepted g c = all_stop c.loop-name.invariant (name_next c.in-Some.ensures.steps c.as_str-name.ensures.value)
    (subst (λ d. Asks c.loop-name.ctx c.member_accepted.new.ctx (member_means_at g.R.RegexEngine.answers g.R.RegexEngine.costs g.N.Means.means
    (sides_seen c.args.sides) d c.as_str-name.result.now (view c.in-Some.value.now)) false) c.declared_from-next.ensures c.if-not-member_accepted.ensures)

pub loop-name-preserved : goal.loop-name-preserved
loop-name-preserved g c = all_go_on c.loop-name.invariant (name_next c.in-Some.ensures.steps c.as_str-name.ensures.value)
    (subst (λ d. Asks c.loop-name.ctx c.member_accepted.new.ctx (member_means_at g.R.RegexEngine.answers g.R.RegexEngine.costs g.N.Means.means
    (sides_seen c.args.sides) d c.as_str-name.result.now (view c.in-Some.value.now)) true) c.declared_from-next.ensures c.if-not-member_accepted.ensures)

pub returns : goal.returns
returns g c = all_end c.loop-name.invariant (no_name_next c.in-None.ensures.steps.0)
