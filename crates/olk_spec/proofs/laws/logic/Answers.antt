use Rattle.olk_spec.proofs.laws.logic.Goals as goal
use Rattle.olk_spec.proofs.Logic.{not_not, all_of_one, any_of_one, one_of_one}

pub returns-clause-not_not : goal.returns-clause-not_not
returns-clause-not_not c = not_not

pub returns-clause-all_of : goal.returns-clause-all_of
returns-clause-all_of c = all_of_one

pub returns-clause-any_of : goal.returns-clause-any_of
returns-clause-any_of c = any_of_one

pub returns-clause-one_of : goal.returns-clause-one_of
returns-clause-one_of c = one_of_one
