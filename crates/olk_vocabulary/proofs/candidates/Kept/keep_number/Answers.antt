use Rattle.std.proofs.Common.{refl}
use Rattle.serde_json.specs.View.{number_view}
use Rattle.olk_vocabulary.proofs.Kept.{number_kept}
use Rattle.olk_vocabulary.proofs.candidates.Kept.keep_number.Goals as goal

pub returns : goal.returns
returns c = number_kept c.args.self.now _ c.of.result (number_view c.args.number.now) c.of.ensures c.in_ok-insert.ensures.keys refl refl
