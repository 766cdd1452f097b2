use Rattle.std.proofs.Common.{drop}
use Rattle.olk_tree.specs.PatternProperties.{matched_mean}
use Rattle.olk_tree.specs.Visited.{object_of}
use Rattle.olk_check.proofs.Walks.{AllLeft}
use Rattle.olk_check.proofs.pattern_properties.patterns_accept.Given as goal

abbrev pub invariant-loop-entry : goal.invariant-loop-entry
invariant-loop-entry g l =
    AllLeft (λ e. matched_mean g.R.RegexEngine.answers g.R.RegexEngine.costs g.N.Means.means e.0 e.1 (object_of l.members.entries)) l.patterns.items
    (drop l.entry-index l.patterns.items) l.initial.ctx l.ctx
