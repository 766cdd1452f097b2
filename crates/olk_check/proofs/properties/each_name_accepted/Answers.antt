use Rattle.std.proofs.Common.{ap, ◌∙◌}
use Rattle.olk_spec.specs.Schemas.{at}
use Rattle.olk_tree.specs.Entries.{each_left}
use Rattle.olk_tree.specs.Questions.{every}
use Rattle.olk_tree.specs.Visited.{object_of}
use Rattle.olk_check.proofs.Asked.{asks_as}
use Rattle.olk_check.proofs.Walks.{all_go_on, all_stop, all_end}
use Rattle.olk_check.proofs.properties.each_name_accepted.Goals as goal

pub returns-then-not-accepted_if_present : goal.returns-then-not-accepted_if_present
returns-then-not-accepted_if_present g c =
    asks_as (ap (every (λ e. every (g.N.Means.means e.1) (at e.0 (object_of c.args.members.now.entries)))) (ap each_left c.into_iter-name-iterator.ensures.into_iter_gives ∙ c.iter-name-items.ensures ∙ c.entries.ensures))
    (all_stop c.loop-name.invariant c.in-Some.ensures.steps
    (rw (← c.member.ensures) c.if-not-accepted_if_present.ensures))

pub loop-name-preserved : goal.loop-name-preserved
loop-name-preserved g c =
    all_go_on c.loop-name.invariant c.in-Some.ensures.steps
    (rw (← c.member.ensures) c.if-not-accepted_if_present.ensures)

pub returns : goal.returns
returns g c =
    asks_as (ap (every (λ e. every (g.N.Means.means e.1) (at e.0 (object_of c.args.members.now.entries)))) (ap each_left c.into_iter-name-iterator.ensures.into_iter_gives ∙ c.iter-name-items.ensures ∙ c.entries.ensures))
    (all_end c.loop-name.invariant c.in-None.ensures.steps)
