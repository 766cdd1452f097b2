use Rattle.std.proofs.Common.{sym}
use Rattle.serde_json.specs.View.{view}
use Rattle.olk_vocabulary.proofs.Blocks.{not_held}
use Rattle.olk_vocabulary.proofs.unique.Block.place_for.Goals as goal

pub returns-in-Err-clause-held : goal.returns-in-Err-clause-held
returns-in-Err-clause-held c = sym (not_held c.args.self.now.slots.items (view c.args.value.now) c.in-Err.at c.in-Err.ensures)
