use Rattle.std.proofs.Common.{◌≡◌, map}
use Rattle.std.specs.List.{list_all}
use Rattle.olk_drafts.specs.Sources.{is_name}
use Rattle.olk_drafts.proofs.Paths.{names_from}
use Rattle.olk_drafts.proofs.sources.are_names.Given as goal

-- the names are those that are left
abbrev pub invariant-loop-segment : goal.invariant-loop-segment
invariant-loop-segment l = list_all is_name (map (λ s. s.now) l.segments.items) ≡ names_from l.segment-index l.segment-items
