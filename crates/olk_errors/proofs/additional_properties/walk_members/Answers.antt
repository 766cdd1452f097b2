use Rattle.std.proofs.Common.{map, sym, ap, ◌∙◌}
use Rattle.serde_json.specs.View.{members_view}
use Rattle.olk_spec.specs.Schemas.{listed, members}
use Rattle.olk_tree.proofs.Due.{name_next, no_name_next}
use Rattle.olk_tree.specs.Additional.{repeats}
use Rattle.olk_errors.proofs.AdditionalMembers.{map_more, members_start, members_stop, members_cut, members_more, members_aside, members_told, members_end}
use Rattle.olk_errors.proofs.Sinks.{walks_left}
use Rattle.olk_errors.proofs.additional_properties.walk_members.Goals as goal

pub loop-name-init : goal.loop-name-init
loop-name-init g c = members_start _ _ _ _ _ _ _ _ _ (ap repeats c.requires ∙ c.law_of_names.ensures)
    (ap (λ es. listed (members_view es)) c.into_iter-name-iterator.ensures.into_iter_gives.0 ∙ sym (ap members c.requires))
    (ap (map (λ n. n.now)) c.new-unexpected.ensures.items)

pub returns-in_err-walk_asked : goal.returns-in_err-walk_asked
returns-in_err-walk_asked g c = walks_left c.from_residual.ensures.0
    (members_stop _ _ _ _ _ _ _ _ _ c.loop-name.invariant (name_next c.in-Some.ensures.steps c.as_str-name.ensures.value) c.declared_from-next.ensures
    c.in_err-walk_asked.ensures.walk)

pub loop-name-preserved-then-not-branch : goal.loop-name-preserved-then-not-branch
loop-name-preserved-then-not-branch g c = members_more _ _ _ _ _ _ _ _ _ c.loop-name.invariant
    (name_next c.in-Some.ensures.steps c.as_str-name.ensures.value) c.declared_from-next.ensures
    c.in_ok-walk_asked.ensures.walk c.in_ok-walk_asked.ensures.unexpected c.if-not-branch.true

pub returns-in_err-append : goal.returns-in_err-append
returns-in_err-append g c = members_cut _ _ _ _ _ _ _ _ _ c.loop-name.invariant (name_next c.in-Some.ensures.steps c.as_str-name.ensures.value) c.declared_from-next.ensures
    c.in_ok-walk_asked.ensures.walk c.from_residual-in_err-append.ensures.0

pub loop-name-preserved : goal.loop-name-preserved
loop-name-preserved g c = members_aside _ _ _ _ _ _ _ _ _ c.loop-name.invariant (name_next c.in-Some.ensures.steps c.as_str-name.ensures.value) c.declared_from-next.ensures
    c.in_ok-walk_asked.ensures.walk c.in_ok-walk_asked.ensures.unexpected c.if-not-branch.false
    (map_more (λ n. n.now) c.loop-name.unexpected.items _ c.in_ok-append.ensures.items) (sym c.wants_one.ensures ∙ c.if-wants_one.false)

pub returns-then-wants_one : goal.returns-then-wants_one
returns-then-wants_one g c = members_told _ _ _ _ _ _ _ _ _ c.loop-name.invariant (name_next c.in-Some.ensures.steps c.as_str-name.ensures.value) c.declared_from-next.ensures
    c.in_ok-walk_asked.ensures.walk c.in_ok-walk_asked.ensures.unexpected c.if-not-branch.false
    (map_more (λ n. n.now) c.loop-name.unexpected.items _ c.in_ok-append.ensures.items)
    (sym c.wants_one.ensures ∙ c.if-wants_one.true) c.report_unexpected.ensures

pub returns : goal.returns
returns g c = members_end _ _ _ _ _ _ _ _ _ c.loop-name.invariant (no_name_next c.in-None.ensures.steps.0) c.report_unexpected-2.ensures
