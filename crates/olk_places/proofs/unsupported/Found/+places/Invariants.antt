use Rattle.std.proofs.Common.{◌+◌, ◌*◌}
use Rattle.olk_places.proofs.unsupported.Found.+places.Given as goal

-- look_at (l) asks look_at_member (l - 1), which asks the others, which ask look_at
abbrev pub decreases-look_at : goal.decreases-look_at
decreases-look_at a = 3 * a.walk.left

abbrev pub decreases-look_at_member : goal.decreases-look_at_member
decreases-look_at_member a = 3 * a.walk.left + 2

abbrev pub decreases-look_at_items : goal.decreases-look_at_items
decreases-look_at_items a = 3 * a.walk.left + 1

abbrev pub decreases-look_at_entries : goal.decreases-look_at_entries
decreases-look_at_entries a = 3 * a.walk.left + 1

abbrev pub decreases-look_at_inner_entries : goal.decreases-look_at_inner_entries
decreases-look_at_inner_entries a = 3 * a.walk.left + 1
