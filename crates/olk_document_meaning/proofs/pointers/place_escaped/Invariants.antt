use Rattle.std.proofs.Common.{◌≡◌, [], length, IsUtf8}
use Rattle.serde_json.specs.Find.{pointer, walk}
use Rattle.serde_json.specs.View.{view}
use Rattle.olk_document_meaning.proofs.pointers.place_escaped.Given as goal

abbrev pub invariant-loop-segment : goal.invariant-loop-segment
invariant-loop-segment l = (pointer l.fn.pointer (view l.fn.document) ≡ walk [] l.rest (view l.place)) × IsUtf8 l.rest

abbrev pub decreases-loop-segment : goal.decreases-loop-segment
decreases-loop-segment l = length l.rest
