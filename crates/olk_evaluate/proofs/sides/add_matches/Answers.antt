use Rattle.std.proofs.lemmas.Result.{on_ok_weaker}
use Rattle.olk_reports.specs.Evaluations.{shown_of}
use Rattle.olk_evaluate.specs.Additional.{names_of}
use Rattle.olk_evaluate.proofs.Additional.{no_match_shown, some_matches_shown}
use Rattle.olk_evaluate.proofs.Children.{emptiness_of}
use Rattle.olk_evaluate.proofs.sides.add_matches.Goals as goal

pub returns-then-is_empty : goal.returns-then-is_empty
returns-then-is_empty c = no_match_shown (names_of c.args.matched.items) c.args.location.now c.args.path.now (shown_of c.args.outcome.now)
    (emptiness_of (λ n. n.now) c.args.matched.items c.args.matched.ok.0 c.if-is_empty.ensures)

pub returns : goal.returns
returns c = on_ok_weaker c.add_child_at.result
    (some_matches_shown (names_of c.args.matched.items) c.args.location.now c.args.path.now (emptiness_of (λ n. n.now) c.args.matched.items c.args.matched.ok.0 c.if-is_empty.ensures)
    c.valid_empty-shown.ensures c.annotate.ensures)
    c.add_child_at.ensures
