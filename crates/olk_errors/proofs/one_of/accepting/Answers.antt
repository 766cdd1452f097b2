use Rattle.olk_errors.proofs.one_of.accepting.Goals as goal

pub returns-in-Value-clause-asks : goal.returns-in-Value-clause-asks
returns-in-Value-clause-asks g c = rw c.in-Value.is c.how_many_accept.ensures.asks

pub returns-in-Value-clause-count : goal.returns-in-Value-clause-count
returns-in-Value-clause-count g c = rw c.in-Value.is c.how_many_accept.ensures.count

pub returns-in-Name-clause-asks : goal.returns-in-Name-clause-asks
returns-in-Name-clause-asks g c = rw c.in-Name.is c.how_many_accept-in-Name.ensures.asks

pub returns-in-Name-clause-count : goal.returns-in-Name-clause-count
returns-in-Name-clause-count g c = rw c.in-Name.is c.how_many_accept-in-Name.ensures.count
