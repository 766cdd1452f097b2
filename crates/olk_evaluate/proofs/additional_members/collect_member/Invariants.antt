use Rattle.std.proofs.Common.{ℕ, option_map}
use Rattle.serde_json.specs.View.{view}
use Rattle.olk_reports.specs.Evaluations.{shown_of}
use Rattle.olk_tree.specs.Additional.{sides_seen}
use Rattle.olk_evaluate.proofs.Collected.{Member, OnTheWay}
use Rattle.olk_evaluate.proofs.additional_members.collect_member.Given as goal

abbrev pub invariant-loop-index : goal.invariant-loop-index
invariant-loop-index g l =
    let w : Member g.row.R.Denot g.row.N.Denot = record {
      answers = g.R.RegexEngine.answers;
      tree = g.N.Show.tree;
      means = g.N.Means.means;
      asking = l.fn.ctx.validation;
      path = l.fn.ctx.path;
      sides = sides_seen l.sides;
      named = l.shows_matches;
      declared = option_map {U = ℕ × g.row.N.Denot} (λ f. (f.0, f.1.now)) l.declared;
      name = l.member.0.now;
      value = view l.member.1.now;
    } in
    OnTheWay w l.spoken l.index l.ctx.path l.ctx.validation l.fn.collected l.collected (shown_of l.fn.outcome) (shown_of l.outcome)
