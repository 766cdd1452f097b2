use Rattle.std.proofs.Common.{sym, ◌∙◌}
use Rattle.olk_bench.proofs.Quoted.{kind_in_quotes}
use Rattle.olk_bench.proofs.leaf.ValueKind.quoted.Goals as goal

pub returns : goal.returns
returns c = c.quoted_name.ensures ∙ sym (kind_in_quotes c.args.self)
