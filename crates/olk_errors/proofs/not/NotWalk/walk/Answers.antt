use Rattle.std.proofs.Common.{not, refl, sym, ap}
use Rattle.serde_json.specs.View.{view}
use Rattle.olk_spec.specs.Faults.{itself, Not}
use Rattle.olk_reports.proofs.Errors.{kind_of_not}
use Rattle.olk_errors.proofs.Own.{like_at, walks_own, own_past, is_own}
use Rattle.olk_check.proofs.Asked.{verdict_of}
use Rattle.olk_errors.proofs.not.NotWalk.walk.Goals as goal

pub returns-then-not-accepts : goal.returns-then-not-accepts
returns-then-not-accepts g c = own_past _ _ c.args.self.now.location _ c.if-not-accepts.ensures.only
    (λ u so. ap not (sym (verdict_of c.if-not-accepts.ensures so))) (λ u so. sym (verdict_of c.if-not-accepts.ensures so))

pub returns : goal.returns
returns g c = walks_own c.if-not-accepts.ensures.only c.report.ensures (λ u so. let accepted = sym (verdict_of c.if-not-accepts.ensures so) in
    is_own (Not (view c.args.self.now.original)) _ c.args.self.now.location _
    (ap not accepted) accepted refl (like_at (kind_of_not _) itself refl c.as_str.ensures))
