use Rattle.std.proofs.Common.{◌+◌, ◌*◌}
use Rattle.olk_places.proofs.json.+values.Given as goal

-- error_values (l) asks branch_values (l - 1), which asks error_values
abbrev pub decreases-error_values : goal.decreases-error_values
decreases-error_values a = 2 * a.left

abbrev pub decreases-branch_values : goal.decreases-branch_values
decreases-branch_values a = 2 * a.left + 1
