use Rattle.std.proofs.Common.{lit<}
use Rattle.std.proofs.Math.Nat.{lt_of_le_of_lt}
use Rattle.olk_numbers.proofs.Powers.{tens_below}
use Rattle.olk_numbers.proofs.decimals.scaled.Goals as goal

pub pow-requires : goal.pow-requires
pow-requires c = lt_of_le_of_lt (tens_below c.args.places c.requires.places) (lit< tt)
