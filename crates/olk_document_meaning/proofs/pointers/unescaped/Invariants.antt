use Rattle.std.proofs.Common.{◌≡◌, ◌++◌, length, string_bytes, IsUtf8}
use Rattle.serde_json.specs.Find.{unescape}
use Rattle.olk_document_meaning.proofs.pointers.unescaped.Given as goal

abbrev pub invariant-loop-plain : goal.invariant-loop-plain
invariant-loop-plain l = (unescape l.fn.segment ≡ string_bytes l.name ++ unescape l.rest) × IsUtf8 l.rest

abbrev pub decreases-loop-plain : goal.decreases-loop-plain
decreases-loop-plain l = length l.rest
