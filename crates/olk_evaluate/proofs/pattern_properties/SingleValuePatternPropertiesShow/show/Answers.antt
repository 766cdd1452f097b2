use Rattle.std.proofs.Common.{◌∷◌, [], refl}
use Rattle.serde_json.specs.Data.{object}
use Rattle.serde_json.specs.View.{members_view}
use Rattle.olk_base.specs.Nodes.{subject_data}
use Rattle.olk_evaluate.proofs.Children.{shown_as}
use Rattle.olk_evaluate.proofs.Patterns.{other_shown, patterns_shown, meets_matched, mean_of_one}
use Rattle.olk_evaluate.proofs.Shows.{kept_same, shows_err, shows_weaker}
use Rattle.olk_evaluate.proofs.pattern_properties.SingleValuePatternPropertiesShow.show.Goals as goal

pub returns-in_err-make_room : goal.returns-in_err-make_room
returns-in_err-make_room g c = shows_err c.from_residual.ensures.0 kept_same

pub returns : goal.returns
returns g c = shows_weaker c.show_matched.ensures (λ u so _ met.
    shown_as (patterns_shown g.R.RegexEngine.answers g.N.Show.tree g.N.Means.means u c.args.ctx.now.path ((c.args.self.now.regex, c.args.self.now.node) ∷ [])
    (subject_data c.args.node) (members_view c.in-Some.members.now.entries) c.in-Some.ensures c.requires c.in_ok-make_room.ensures
    (meets_matched g.R.RegexEngine.answers u c.args.self.now.regex c.args.self.now.node (object (members_view c.in-Some.members.now.entries)) met)
    g.R.RegexEngine.costs c.args.self.now.location)
    refl (mean_of_one g.R.RegexEngine.answers u c.args.self.now.regex c.args.self.now.node (subject_data c.args.node) g.R.RegexEngine.costs g.N.Means.means))

pub returns-in_default : goal.returns-in_default
returns-in_default g c = record {
  shown = λ u so. shown_as (other_shown g.R.RegexEngine.answers g.N.Show.tree g.N.Means.means u c.args.ctx.now.path ((c.args.self.now.regex, c.args.self.now.node) ∷ [])
      (subject_data c.args.node) c.in_default.ensures c.requires g.R.RegexEngine.costs c.args.self.now.location)
      refl (mean_of_one g.R.RegexEngine.answers u c.args.self.now.regex c.args.self.now.node (subject_data c.args.node) g.R.RegexEngine.costs g.N.Means.means);
  kept = kept_same;
}
