use Rattle.std.proofs.Common.{ℕ, option_map}
use Rattle.serde_json.specs.View.{view}
use Rattle.olk_tree.specs.Additional.{sides_seen}
use Rattle.olk_check.proofs.Choices.{Spoken, nothing_matches}
use Rattle.olk_check.proofs.additional_properties.patterns_of_declared_accept.Goals as goal

pub returns-then-matches_nothing : goal.returns-then-matches_nothing
returns-then-matches_nothing g c =
    let w : Spoken g.row.R.Denot g.row.N.Denot = record {
      answers = g.R.RegexEngine.answers;
      costs = g.R.RegexEngine.costs;
      means = g.N.Means.means;
      sides = sides_seen c.args.sides;
      declared = option_map {U = ℕ × g.row.N.Denot} (λ f. (f.0, f.1.now)) c.args.declared;
      name = c.args.name.now;
      value = view c.args.value.now;
    } in
    nothing_matches w (c.matches_nothing.ensures.unmatched c.if-matches_nothing.true) (c.matches_nothing.ensures.declared c.if-matches_nothing.true)

pub returns : goal.returns
returns g c = c.patterns_accept_apart.ensures
