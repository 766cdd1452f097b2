use Rattle.std.proofs.Common.{option_copied, option_to_list, sym, subst}
use Rattle.serde_json.specs.View.{view}
use Rattle.olk_reports.specs.Evaluations.{shown_of}
use Rattle.olk_evaluate.specs.Additional.{nodes_wanted}
use Rattle.olk_evaluate.specs.Wanted.{ShowsMore}
use Rattle.olk_evaluate.proofs.Children.{shows_none}
use Rattle.olk_evaluate.proofs.Shows.{kept_same, shows_weaker}
use Rattle.olk_evaluate.proofs.additional_members.show_rest.Goals as goal

pub returns-in-Some : goal.returns-in-Some
returns-in-Some g c = shows_weaker c.add_child_below.ensures
    (λ u so _. subst (λ o. ShowsMore (nodes_wanted g.N.Show.tree g.N.Means.means u c.args.ctx.now.path c.args.member.0.now (view c.args.member.1.now) (option_to_list (option_copied o)))
    (shown_of c.args.outcome.now) (shown_of c.add_child_below.new.outcome)) (sym c.in-Some.is))

pub returns-in-None : goal.returns-in-None
returns-in-None g c = record {
  shown = λ u so. subst (λ o. ShowsMore (nodes_wanted g.N.Show.tree g.N.Means.means u c.args.ctx.now.path c.args.member.0.now (view c.args.member.1.now) (option_to_list (option_copied o)))
      (shown_of c.args.outcome.now) (shown_of c.args.outcome.now)) (sym c.in-None.is) (shows_none (shown_of c.args.outcome.now));
  kept = kept_same;
}
