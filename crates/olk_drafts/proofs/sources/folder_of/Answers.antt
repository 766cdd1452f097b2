use Rattle.std.proofs.Common.{◌≡◌, ◌-◌, length, ap, ◌∙◌, arith}
use Rattle.olk_drafts.specs.Sources.{with_slashes, fronts}
use Rattle.olk_drafts.proofs.Paths.{fronts_taken}
use Rattle.olk_drafts.proofs.sources.folder_of.Goals as goal

pub returns : goal.returns
returns c =
    let ss = c.in_ok-segments.segments.items in
    let last : c.loop-i.i ≡ length ss - 1 = omega arith in
    c.loop-i.invariant ∙ ap with_slashes (fronts_taken ss c.loop-i.i last ∙ ap fronts c.in_ok-segments.ensures)
