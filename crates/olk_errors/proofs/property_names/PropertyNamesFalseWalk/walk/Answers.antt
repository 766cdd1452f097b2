use Rattle.std.proofs.Common.{not, refl, sym, ap}
use Rattle.olk_spec.specs.Faults.{itself, FalseSchema}
use Rattle.olk_reports.proofs.Errors.{kind_of_false_schema}
use Rattle.olk_errors.proofs.Own.{like_at, walks_own, own_past, is_own}
use Rattle.olk_check.proofs.Asked.{verdict_of}
use Rattle.olk_errors.proofs.property_names.PropertyNamesFalseWalk.walk.Goals as goal

pub returns-then-accepts : goal.returns-then-accepts
returns-then-accepts c = own_past (λ u. FalseSchema) _ c.args.self.now.location _ c.if-accepts.ensures.only
    (λ u so. sym (verdict_of c.if-accepts.ensures so)) (λ u so. ap not (sym (verdict_of c.if-accepts.ensures so)))

pub returns : goal.returns
returns c = walks_own c.if-accepts.ensures.only c.report.ensures (λ u so. let refused = sym (verdict_of c.if-accepts.ensures so) in
    is_own FalseSchema _ c.args.self.now.location _ refused (ap not refused) refl (like_at kind_of_false_schema itself refl c.as_str.ensures))
