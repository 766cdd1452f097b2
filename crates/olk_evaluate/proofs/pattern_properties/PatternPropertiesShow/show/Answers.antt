use Rattle.std.proofs.Common.{refl}
use Rattle.serde_json.specs.View.{members_view}
use Rattle.olk_base.specs.Nodes.{subject_data}
use Rattle.olk_reports.specs.Evaluations.{shown_of}
use Rattle.olk_tree.proofs.Lists.{next_at, past_end}
use Rattle.olk_evaluate.proofs.Members.{meets_nothing, meets_both}
use Rattle.olk_evaluate.proofs.Patterns.{other_shown, patterns_shown}
use Rattle.olk_evaluate.proofs.Shows.{kept_same, kept_then, shows_err, leaves_all, leaves_rest, leaves_none}
use Rattle.olk_evaluate.proofs.pattern_properties.PatternPropertiesShow.show.Goals as goal

pub returns-in_default : goal.returns-in_default
returns-in_default g c = record {
  shown = λ u so. other_shown g.R.RegexEngine.answers g.N.Show.tree g.N.Means.means u c.args.ctx.now.path c.args.self.now.patterns.items
      (subject_data c.args.node) c.in_default.ensures c.requires g.R.RegexEngine.costs c.args.self.now.location;
  kept = kept_same;
}

pub returns-in_err-make_room : goal.returns-in_err-make_room
returns-in_err-make_room g c = shows_err c.from_residual.ensures.0 kept_same

pub loop-entry-init : goal.loop-entry-init
loop-entry-init g c = leaves_all refl

pub loop-entry-preserved : goal.loop-entry-preserved
loop-entry-preserved g c = leaves_rest c.loop-entry.invariant (next_at c.deref-entry-items.ensures.value c.entry-item.is c.loop-entry-test.true)
    (λ u so _. meets_both (c.in_ok-show_matched.ensures.shown u so)) c.show_matched.ensures.kept

pub returns-in_err-show_matched : goal.returns-in_err-show_matched
returns-in_err-show_matched g c = shows_err c.from_residual-in_err-show_matched.ensures.0 (kept_then c.loop-entry.invariant.kept c.show_matched.ensures.kept)

pub returns : goal.returns
returns g c = record {
  shown = λ u so. patterns_shown g.R.RegexEngine.answers g.N.Show.tree g.N.Means.means u c.args.ctx.now.path c.args.self.now.patterns.items (subject_data c.args.node)
      (members_view c.in-Some.members.now.entries) c.in-Some.ensures c.requires c.in_ok-make_room.ensures
      (leaves_none c.loop-entry.invariant (past_end c.deref-entry-items.ensures.value c.loop-entry-test.false) so (meets_nothing (shown_of c.loop-entry.outcome)))
      g.R.RegexEngine.costs c.args.self.now.location;
  kept = c.loop-entry.invariant.kept;
}
