use Rattle.olk_tree.proofs.Heads.{kept_rise}
use Rattle.olk_tree.proofs.names.find_far.Goals as goal

pub first_of_all-requires : goal.first_of_all-requires
first_of_all-requires c = kept_rise c.args.names.now c.requires.ascend
