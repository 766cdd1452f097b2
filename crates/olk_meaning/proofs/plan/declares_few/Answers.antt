use Rattle.olk_meaning.proofs.Fused.{few_declared}
use Rattle.olk_meaning.proofs.plan.declares_few.Goals as goal

pub returns-in-Some-as_object : goal.returns-in-Some-as_object
returns-in-Some-as_object c = few_declared c.args.value c.in-Some.value c.in-Some.is c.in-Some-as_object.declared.now.entries c.len.result c.in-Some-as_object.ensures c.len.ensures.len
