use Rattle.std.proofs.Common.{◌≡◌, map, take, string_bytes}
use Rattle.olk_drafts.specs.Sources.{with_slashes}
use Rattle.olk_drafts.proofs.sources.folder_of.Given as goal

abbrev pub invariant-loop-i : goal.invariant-loop-i
invariant-loop-i l = string_bytes l.folder ≡ with_slashes (map (λ s. s.now) (take l.i l.segments.items))
