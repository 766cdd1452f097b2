use Rattle.std.proofs.Common.{◌≡◌, length}
use Rattle.olk_regexes.specs.Categories.{names}
use Rattle.olk_regexes.specs.Escapes.{category_in}
use Rattle.olk_regexes.specs.Seen.{seen_names}
use Rattle.olk_regexes.proofs.names.read_name.Given as goal

abbrev pub invariant-loop-rows : goal.invariant-loop-rows
invariant-loop-rows l = category_in (seen_names l.rows) l.text ≡ category_in names l.text

abbrev pub decreases-loop-rows : goal.decreases-loop-rows
decreases-loop-rows l = length l.rows
