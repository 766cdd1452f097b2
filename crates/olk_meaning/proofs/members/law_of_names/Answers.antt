use Rattle.olk_meaning.proofs.Listed.{sorted_distinct}
use Rattle.olk_meaning.proofs.members.law_of_names.Goals as goal

pub returns : goal.returns
returns c = sorted_distinct c.args.members.now.entries c.iter-members.ensures.ordered
