use Rattle.olk_errors.proofs.Unexpected.{emptiness_of, none_unexpected, told_alone}
use Rattle.olk_errors.proofs.additional_properties.report_unexpected.Goals as goal

pub returns-then-is_empty : goal.returns-then-is_empty
returns-then-is_empty c = none_unexpected _ _ _ _ (emptiness_of (λ n. n.now) c.args.unexpected.items c.args.unexpected.ok.0 c.if-is_empty.ensures)

pub returns : goal.returns
returns c = told_alone _ _ _ _ (emptiness_of (λ n. n.now) c.args.unexpected.items c.args.unexpected.ok.0 c.if-is_empty.ensures) c.report_names.ensures
