use Rattle.std.proofs.Common.{[], subst}
use Rattle.std.proofs.lemmas.Result.{on_ok_weaker}
use Rattle.serde_json.specs.View.{view}
use Rattle.olk_spec.specs.Meaning.{report}
use Rattle.olk_base.specs.Kit.{kit, world}
use Rattle.object_logic.proofs.NodeVerdicts.{certain_of_schema}
use Rattle.object_logic.proofs.NodeReports.{report_of_schema}
use Rattle.olk_errors.specs.Found.{Appends}
use Rattle.object_logic.proofs.Appended.{none_appended}
use Rattle.object_logic.proofs.validator.Validator.collect_errors.Goals as goal

pub returns-clause-report : goal.returns-clause-report
returns-clause-report g c S stands = on_ok_weaker c.collect_errors.result
    (λ h. subst (λ Q. Appends c.args.errors.now.items c.collect_errors.new.errors.items
    (report (world g.K.Leaf g.R.RegexEngine) c.args.ctx.now.answer S (view c.args.instance.now) [] Q)) c.new-path.ensures
    (report_of_schema (kit g.K.Leaf g.R.RegexEngine) c.args.self.now.root c.args.ctx.now.answer (view c.args.instance.now) c.new-path.result h S [] stands.root)) c.collect_errors.ensures.report

pub returns-clause-verdict : goal.returns-clause-verdict
returns-clause-verdict g c S stands = on_ok_weaker c.collect_errors.result
    (λ h. none_appended (world g.K.Leaf g.R.RegexEngine) c.args.ctx.now.answer S (view c.args.instance.now) [] c.new-path.result c.args.errors.now.items c.collect_errors.new.errors.items
    (report_of_schema (kit g.K.Leaf g.R.RegexEngine) c.args.self.now.root c.args.ctx.now.answer (view c.args.instance.now) c.new-path.result h S [] stands.root)) c.collect_errors.ensures.report

pub returns-clause-certain : goal.returns-clause-certain
returns-clause-certain g c S stands = on_ok_weaker c.collect_errors.result (certain_of_schema {P = []} (view c.args.instance.now) stands.root) c.collect_errors.ensures.certain
