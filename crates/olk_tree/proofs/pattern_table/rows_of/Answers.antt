use Rattle.std.proofs.Common.{◌≡◌, ◌*◌, length, map, ap, sym, subst, ◌∙◌, arith}
use Rattle.std.specs.List.{AllZip}
use Rattle.std.proofs.lemmas.List.{take_all}
use Rattle.olk_tree.specs.Sorted.{name_of}
use Rattle.olk_tree.specs.Tables.{patterns_of, IsRowOf, how_many_cost, count_asks}
use Rattle.olk_tree.proofs.Tables.{on_err, stops_before, stops_behind, asks_a_name, row_told}
use Rattle.olk_tree.proofs.pattern_table.rows_of.Goals as goal

pub returns-in_err-row_of-clause-asked_at_most : goal.returns-in_err-row_of-clause-asked_at_most
returns-in_err-row_of-clause-asked_at_most g c =
    on_err _ (stops_before _ _ c.args.meter.now c.loop-name.meter c.row_of.new.meter c.loop-name.name-index c.loop-name.invariant.asked c.loop-name-test.true c.in_err-row_of.ensures.unasked)

pub returns-in_err-push-clause-asked_at_most : goal.returns-in_err-push-clause-asked_at_most
returns-in_err-push-clause-asked_at_most g c =
    on_err _ (stops_behind _ _ c.args.meter.now c.loop-name.meter c.row_of.new.meter c.loop-name.name-index c.loop-name.invariant.asked c.loop-name-test.true c.in_ok-row_of.ensures.asked)

pub loop-name-preserved : goal.loop-name-preserved
loop-name-preserved g c = record {
  rows =
      subst (AllZip _ _) (sym c.in_ok-push.ensures.items)
      (row_told g.R.RegexEngine.answers (patterns_of c.args.patterns.now) c.args.names.now c.loop-name.name-index c.name-item.result c.loop-name.rows.items c.in_ok-row_of.field-0 c.loop-name-test.true c.name-item.is c.loop-name.invariant.rows (subst (λ n. IsRowOf g.R.RegexEngine.answers (patterns_of c.args.patterns.now) n c.in_ok-row_of.field-0) c.as_str.ensures c.in_ok-row_of.ensures.answers));
  asked =
      asks_a_name _ 0 c.args.meter.now c.loop-name.meter c.row_of.new.meter c.loop-name.name-index c.loop-name.invariant.asked c.in_ok-row_of.ensures.asked;
}

pub returns-clause-answers : goal.returns-clause-answers
returns-clause-answers g c =
    subst (λ ns. AllZip (IsRowOf g.R.RegexEngine.answers (patterns_of c.args.patterns.now)) (map name_of ns) c.loop-name.rows.items)
    (take_all c.loop-name.name-index c.args.names.now (omega arith)) c.loop-name.invariant.rows

pub returns-clause-asked : goal.returns-clause-asked
returns-clause-asked g c =
    let all : c.loop-name.name-index ≡ length c.args.names.now = omega arith in
    c.loop-name.invariant.asked ∙ ap (λ n. count_asks (n * how_many_cost g.R.RegexEngine.costs (patterns_of c.args.patterns.now)) c.args.meter.now) all
