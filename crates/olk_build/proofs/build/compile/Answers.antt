use Rattle.std.proofs.lemmas.Result.{err_from_is_err_and}
use Rattle.serde_json.specs.View.{view}
use Rattle.olk_base.specs.Kit.{kit}
use Rattle.olk_build.proofs.Built.{own_stands, own_clean, own_spends, own_tells, own_within}
use Rattle.olk_build.proofs.Spending.{exit_with, within_nothing}
use Rattle.olk_build.proofs.build.compile.Goals as goal

pub returns-in_err-location-clause-costs_at_most : goal.returns-in_err-location-clause-costs_at_most
returns-in_err-location-clause-costs_at_most g c = let p = err_from_is_err_and c.from_residual.result c.from_residual.ensures.1 in rw p.1 within_nothing

pub returns-in_err-compile_schema-clause-refused : goal.returns-in_err-compile_schema-clause-refused
returns-in_err-compile_schema-clause-refused g c =
    exit_with _ _ _ c.from_residual-in_err-compile_schema.ensures.1 (own_tells (kit g.L.Leaf.Leaf g.M.Engine.RegexEngine) (view c.args.schema.now) c.in_ok-location.ensures c.in_err-compile_schema.ensures.refused)

pub returns-in_err-compile_schema-clause-costs_at_most : goal.returns-in_err-compile_schema-clause-costs_at_most
returns-in_err-compile_schema-clause-costs_at_most g c =
    let p = err_from_is_err_and c.from_residual-in_err-compile_schema.result c.from_residual-in_err-compile_schema.ensures.1 in rw p.1 (own_within (kit g.L.Leaf.Leaf g.M.Engine.RegexEngine) (view c.args.schema.now) c.in_ok-location.ensures c.in_err-compile_schema.ensures.refused)

pub returns-clause-stands : goal.returns-clause-stands
returns-clause-stands g c = own_stands (kit g.L.Leaf.Leaf g.M.Engine.RegexEngine) (view c.args.schema.now) c.in_ok-location.ensures c.in_ok-compile_schema.ensures.built

pub returns-clause-clean : goal.returns-clause-clean
returns-clause-clean g c = own_clean (kit g.L.Leaf.Leaf g.M.Engine.RegexEngine) (view c.args.schema.now) c.in_ok-location.ensures c.in_ok-compile_schema.ensures.built

pub returns-clause-costs : goal.returns-clause-costs
returns-clause-costs g c = own_spends (kit g.L.Leaf.Leaf g.M.Engine.RegexEngine) (view c.args.schema.now) c.in_ok-location.ensures c.in_ok-compile_schema.ensures.built
