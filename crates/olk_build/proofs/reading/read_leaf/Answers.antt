use Rattle.std.proofs.Common.{[], ◌∷◌, sym, subst}
use Rattle.serde_json.specs.View.{view}
use Rattle.olk_spec.specs.Faults.{fault}
use Rattle.olk_build.specs.Refusing.{TellsOneOf}
use Rattle.olk_reports.proofs.Errors.{kind_of_leaf_refused}
use Rattle.olk_build.proofs.Read.{refuses_leaf, refuses_leaf_memory}
use Rattle.olk_base.specs.{Kit.world, Lawful.IsRefused}
use Rattle.olk_build.proofs.reading.read_leaf.Goals as goal

pub returns-in-Err-Refused-clause-refused : goal.returns-in-Err-Refused-clause-refused
returns-in-Err-Refused-clause-refused g c = refuses_leaf (world g.L.Leaf.Leaf g.M.Engine.RegexEngine) c.args.name.now
    (view c.args.value.now) c.requires.leaf c.args.meter.now c.make.new.meter c.make.ensures.counts c.args.location.now c.refuse.result
    (c.in-Err-Refused.ensures.refused (subst IsRefused (sym c.in-Err-Refused.field-0-is) tt))
    (subst (λ k. TellsOneOf (fault k (view c.args.value.now) [] c.args.location.now ∷ []) c.refuse.result) (kind_of_leaf_refused c.args.name) c.refuse.ensures)

pub returns-in-Err-Memory-clause-refused : goal.returns-in-Err-Memory-clause-refused
returns-in-Err-Memory-clause-refused g c = refuses_leaf_memory (world g.L.Leaf.Leaf g.M.Engine.RegexEngine) c.args.name.now
    (view c.args.value.now) c.requires.leaf c.args.meter.now c.make.new.meter c.make.ensures.counts _ _ c.from.ensures
