use Rattle.std.proofs.Common.{[], subst}
use Rattle.std.proofs.lemmas.Result.{on_ok_weaker}
use Rattle.serde_json.specs.View.{view}
use Rattle.olk_base.specs.Kit.{kit, world}
use Rattle.object_logic.specs.Nodes.{answers}
use Rattle.object_logic.proofs.NodeVerdicts.{certain_of_schema}
use Rattle.object_logic.proofs.NodeReports.{accepts_of_schema, refusal_of_schema}
use Rattle.olk_errors.specs.Found.{IsLikeOneOf, IsRefusal}
use Rattle.olk_errors.proofs.Appending.{told_so, if_told}
use Rattle.object_logic.proofs.validator.Validator.validate.Goals as goal

pub returns-clause-ok : goal.returns-clause-ok
returns-clause-ok g c S stands = on_ok_weaker c.validate.result
    (λ h. accepts_of_schema (kit g.K.Leaf g.R.RegexEngine) c.args.self.now.root c.args.ctx.now.answer (view c.args.instance.now) c.new-path.result h S [] stands.root) c.validate.ensures.ok

pub returns-clause-invalid : goal.returns-clause-invalid
returns-clause-invalid g c S stands = told_so c.validate.result
    (λ f h. subst (λ Q. IsRefusal (world g.K.Leaf g.R.RegexEngine) c.args.ctx.now.answer S (view c.args.instance.now) [] Q f) c.new-path.ensures
    (refusal_of_schema (kit g.K.Leaf g.R.RegexEngine) c.args.self.now.root c.args.ctx.now.answer (view c.args.instance.now) c.new-path.result f h S [] stands.root)) c.validate.ensures.invalid

pub returns-clause-first : goal.returns-clause-first
returns-clause-first g c = told_so c.validate.result
    (λ f h. subst (λ Q. IsLikeOneOf ((answers (kit g.K.Leaf g.R.RegexEngine) c.args.self.now.root).first c.args.ctx.now.answer
    (view c.args.instance.now) Q) f) c.new-path.ensures h.of_first) c.validate.ensures.invalid

pub returns-clause-certain : goal.returns-clause-certain
returns-clause-certain g c S stands = if_told c.validate.result (certain_of_schema {P = []} (view c.args.instance.now) stands.root) c.validate.ensures.certain
