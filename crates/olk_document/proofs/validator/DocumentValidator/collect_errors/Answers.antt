use Rattle.std.proofs.lemmas.Result.{on_ok_weaker}
use Rattle.serde_json.specs.View.{view}
use Rattle.olk_document.proofs.Verdicts.{certain_of_document}
use Rattle.olk_document.proofs.Reports.{report_of_document, none_appended}
use Rattle.olk_document.proofs.validator.DocumentValidator.collect_errors.Goals as goal

pub returns-clause-report : goal.returns-clause-report
returns-clause-report g c D stands = on_ok_weaker c.collect_errors.result (report_of_document stands.root c.args.ctx.now.answer (view c.args.instance.now))
    (rw c.new-path.ensures at c.collect_errors.ensures.report)

pub returns-clause-verdict : goal.returns-clause-verdict
returns-clause-verdict g c D stands = on_ok_weaker c.collect_errors.result (none_appended stands.root c.args.ctx.now.answer (view c.args.instance.now))
    (rw c.new-path.ensures at c.collect_errors.ensures.report)

pub returns-clause-certain : goal.returns-clause-certain
returns-clause-certain g c D stands = on_ok_weaker c.collect_errors.result (certain_of_document stands.root (view c.args.instance.now)) c.collect_errors.ensures.certain
