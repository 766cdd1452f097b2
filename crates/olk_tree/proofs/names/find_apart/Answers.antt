use Rattle.olk_tree.proofs.Heads.{kept_rise}
use Rattle.olk_tree.proofs.names.find_apart.Goals as goal

pub first_near-requires : goal.first_near-requires
first_near-requires c = kept_rise c.args.names.now c.requires
