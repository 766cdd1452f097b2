use Rattle.std.proofs.Common.{◌+◌, ◌*◌}
use Rattle.olk_places.proofs.located.+seeking.Given as goal

-- seek_errors (l) asks seek_branches (l - 1), which asks seek_errors
abbrev pub decreases-seek_errors : goal.decreases-seek_errors
decreases-seek_errors a = 2 * a.left

abbrev pub decreases-seek_branches : goal.decreases-seek_branches
decreases-seek_branches a = 2 * a.left + 1
