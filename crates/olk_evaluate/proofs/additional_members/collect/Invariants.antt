use Rattle.serde_json.specs.View.{members_view}
use Rattle.olk_spec.specs.Schemas.{listed}
use Rattle.olk_reports.specs.Evaluations.{Shown, shown_of}
use Rattle.olk_tree.specs.Additional.{sides_seen}
use Rattle.olk_evaluate.specs.Additional.{CollectsMore, members_found}
use Rattle.olk_evaluate.specs.declared.additional_members.Collected.{Collected}
use Rattle.olk_evaluate.proofs.Shows.{Leaves}
use Rattle.olk_evaluate.proofs.additional_members.collect.Given as goal

abbrev pub invariant-loop-name : goal.invariant-loop-name
invariant-loop-name g l =
    Leaves {S = Collected × Shown} (λ u Q xs a b. CollectsMore (members_found g.R.RegexEngine.answers g.N.Show.tree g.N.Means.means u Q (sides_seen l.sides) l.shows_matches xs) a.0 b.0 a.1 b.1)
    (listed (members_view l.members.entries)) (listed (members_view l.name-iterator)) (l.initial.collected, shown_of l.initial.outcome) (l.collected, shown_of l.outcome)
    l.fn.ctx.path l.ctx.path l.fn.ctx.validation l.ctx.validation
