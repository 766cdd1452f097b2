use Rattle.std.proofs.Common.{rules}
use Rattle.olk_tree.proofs.names.SortedNames.as_slice.Goals as goal

pub returns : goal.returns
returns c = search rules
