use Rattle.std.proofs.Common.{ap, subst}
use Rattle.serde_json.specs.View.{view, members_view}
use Rattle.olk_spec.specs.Schemas.{listed}
use Rattle.olk_reports.specs.Evaluations.{shown_of}
use Rattle.olk_tree.specs.Additional.{sides_seen}
use Rattle.olk_tree.proofs.Due.{name_next, no_name_next}
use Rattle.olk_evaluate.specs.Additional.{CollectsMore, member_found}
use Rattle.olk_evaluate.proofs.Children.{shows_from}
use Rattle.olk_evaluate.proofs.Collected.{collects_all, collects_both, collects_nothing}
use Rattle.olk_evaluate.proofs.Shows.{kept_same, kept_then, shows_err, leaves_all, leaves_rest, leaves_none}
use Rattle.olk_evaluate.proofs.additional_members.collect.Goals as goal

pub returns-in_err-reserve_children : goal.returns-in_err-reserve_children
returns-in_err-reserve_children g c = shows_err c.from_residual.ensures.0 kept_same

pub returns-in_err-collect_member : goal.returns-in_err-collect_member
returns-in_err-collect_member g c = shows_err c.from_residual-in_err-collect_member.ensures.0 (kept_then c.loop-name.invariant.kept c.collect_member.ensures.kept)

pub loop-name-init : goal.loop-name-init
loop-name-init g c = leaves_all (ap (λ es. listed (members_view es)) c.into_iter-name-iterator.ensures.into_iter_gives.0)

pub loop-name-preserved : goal.loop-name-preserved
loop-name-preserved g c = leaves_rest c.loop-name.invariant (name_next c.in-Some.ensures.steps c.as_str-name.ensures.value)
    (λ u so _. collects_both (subst (λ d. CollectsMore (member_found g.R.RegexEngine.answers g.N.Show.tree g.N.Means.means u c.loop-name.ctx.path (sides_seen c.args.sides) c.args.shows_matches d c.as_str-name.result.now
    (view c.in-Some.value.now)) c.loop-name.collected c.collect_member.new.collected (shown_of c.loop-name.outcome) (shown_of c.collect_member.new.outcome)) c.declared_from-next.ensures
    (c.in_ok-collect_member.ensures.shown u so))) c.collect_member.ensures.kept

pub returns : goal.returns
returns g c =
    record {
      shown = λ u so. let found = leaves_none c.loop-name.invariant (no_name_next c.in-None.ensures.steps.0) so (collects_nothing c.loop-name.collected (shown_of c.loop-name.outcome)) in
          collects_all c.new.ensures.items c.new-2.ensures.items found (shows_from c.reserve_children.ensures found.shown);
      kept = c.loop-name.invariant.kept;
    }
