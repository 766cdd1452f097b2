use Rattle.std.proofs.Common.{sym, ap, ◌∙◌, arith}
use Rattle.std.proofs.lemmas.List.{take_all}
use Rattle.olk_tree.specs.Tables.{patterns_of, how_many_cost, count_asks}
use Rattle.olk_tree.proofs.Tables.{no_asks, asked_more, all_noted, as_many_patterns, pattern_here}
use Rattle.olk_tree.proofs.pattern_table.row_of.Goals as goal

pub loop-index-init : goal.loop-index-init
loop-index-init g c = record {
  words = λ i l. c.in_ok-row.ensures.words i (omega (arith, as_many_patterns c.args.patterns.now, l));
  noted = λ i e l. absurd (omega arith);
  blank = λ i l. c.in_ok-row.ensures.unmatched i;
  asked = sym (no_asks c.args.meter.now);
}

pub loop-index-preserved : goal.loop-index-preserved
loop-index-preserved g c =
    let es = c.args.patterns.now in
    asked_more g.R.RegexEngine.answers g.R.RegexEngine.costs (patterns_of es) c.args.name.now c.args.meter.now c.loop-index.index c.loop-index.row c.note.new.self c.loop-index.meter c.is_match.new.meter
    c.index-patterns-index.result.0 c.loop-index.invariant (omega (arith, as_many_patterns es, c.loop-index-test.true))
    (pattern_here es c.loop-index.index c.index-patterns-index.result c.loop-index-test.true c.index-patterns-index.is)
    (c.note.ensures.noted ∙ c.is_match.ensures.answer) c.note.ensures.others c.note.ensures.words c.is_match.ensures.counts

pub note-requires-clause-word : goal.note-requires-clause-word
note-requires-clause-word g c = c.loop-index.invariant.words c.loop-index.index (omega (arith, as_many_patterns c.args.patterns.now, c.loop-index-test.true))

pub note-requires-clause-unmatched : goal.note-requires-clause-unmatched
note-requires-clause-unmatched g c = c.loop-index.invariant.blank c.loop-index.index (omega arith)

pub returns-clause-answers : goal.returns-clause-answers
returns-clause-answers g c =
    all_noted g.R.RegexEngine.answers g.R.RegexEngine.costs (patterns_of c.args.patterns.now) c.args.name.now c.args.meter.now c.loop-index.index c.loop-index.row c.loop-index.meter
    (omega (arith, as_many_patterns c.args.patterns.now)) c.loop-index.invariant

pub returns-clause-asked : goal.returns-clause-asked
returns-clause-asked g c =
    c.loop-index.invariant.asked ∙ ap (λ ps. count_asks (how_many_cost g.R.RegexEngine.costs ps) c.args.meter.now)
    (take_all c.loop-index.index (patterns_of c.args.patterns.now) (omega (arith, as_many_patterns c.args.patterns.now)))
