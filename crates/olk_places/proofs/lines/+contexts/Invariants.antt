use Rattle.std.proofs.Common.{◌+◌, ◌*◌}
use Rattle.olk_places.proofs.lines.+contexts.Given as goal

-- push_error (l) asks push_branches (l - 1), which asks push_error
abbrev pub decreases-push_error : goal.decreases-push_error
decreases-push_error a = 2 * a.left

abbrev pub decreases-push_branches : goal.decreases-push_branches
decreases-push_branches a = 2 * a.left + 1
