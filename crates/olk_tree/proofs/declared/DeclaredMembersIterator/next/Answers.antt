use Rattle.std.proofs.Common.{rules}
use Rattle.olk_tree.proofs.declared.DeclaredMembersIterator.next.Goals as goal

pub returns-then-self-clause-steps : goal.returns-then-self-clause-steps
returns-then-self-clause-steps g c = search rules

pub returns-else-self-clause-steps : goal.returns-else-self-clause-steps
returns-else-self-clause-steps g c = search rules

pub returns-else-self-clause-goes : goal.returns-else-self-clause-goes
returns-else-self-clause-goes g c = search rules
