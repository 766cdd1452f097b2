use Rattle.std.proofs.Common.{ℕ, option_map, is_some}
use Rattle.serde_json.specs.View.{view}
use Rattle.olk_tree.specs.Additional.{sides_seen}
use Rattle.olk_check.proofs.Choices.{Leaves, Spoken, patterns_from}
use Rattle.olk_check.proofs.additional_properties.patterns_accept.Given as goal

abbrev pub invariant-loop-index : goal.invariant-loop-index
invariant-loop-index g l =
    let w : Spoken g.row.R.Denot g.row.N.Denot = record {
      answers = g.R.RegexEngine.answers;
      costs = g.R.RegexEngine.costs;
      means = g.N.Means.means;
      sides = sides_seen l.sides;
      declared = option_map {U = ℕ × g.row.N.Denot} (λ f. (f.0, f.1.now)) l.declared;
      name = l.name;
      value = view l.value;
    } in
    Leaves w (patterns_from w (is_some l.declared) 0 w.sides.patterns) l.spoken l.index l.initial.ctx l.ctx
