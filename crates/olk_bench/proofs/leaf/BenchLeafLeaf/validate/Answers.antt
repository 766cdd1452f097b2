use Rattle.std.proofs.Common.{sym, ◌∙◌}
use Rattle.olk_base.specs.Nodes.{data_of}
use Rattle.olk_bench.proofs.Findings.{finds_text, Contains-only}
use Rattle.olk_bench.proofs.leaf.BenchLeafLeaf.validate.Goals as goal

pub returns : goal.returns
returns c = Contains-only _ _ _ (finds_text c.args.self.now (data_of c.args.node) (sym c.is_valid.ensures ∙ c.if-is_valid.false)) c.in_ok-text.ensures
