use Rattle.std.proofs.Common.{◌≡◌, Some, option_map, sym, ◌∙◌, ap}
use Rattle.serde_json.specs.View.{view}
use Rattle.olk_base.specs.Kit.{kit}
use Rattle.olk_build.proofs.Spending.{exit_with}
use Rattle.olk_document_spec.specs.Documents.{place_named}
use Rattle.olk_document_build.proofs.Rounds.{made_there, refused_there}
use Rattle.olk_document_build.proofs.document.compile_target.Goals as goal

pub returns-in_err-node-in-Some-clause-refused : goal.returns-in_err-node-in-Some-clause-refused
returns-in_err-node-in-Some-clause-refused g c =
    let named : place_named (view c.args.document.now) c.args.text.now ≡ Some (view c.in-Some.schema.now) = sym c.in_ok-schema.ensures ∙ ap (option_map (λ v. view v.now)) c.in-Some.is in
    exit_with _ _ _ c.from_residual-in_err-node-in-Some.ensures.1
    (refused_there (kit g.L.Leaf.Leaf g.M.Engine.RegexEngine) (view c.args.document.now) c.args.targets.now c.args.text.now named c.in_ok-location-in-Some.ensures _ c.in_err-node-in-Some.ensures.refused)

pub returns-in_ok-node-in-Some-clause-built : goal.returns-in_ok-node-in-Some-clause-built
returns-in_ok-node-in-Some-clause-built g c =
    let named : place_named (view c.args.document.now) c.args.text.now ≡ Some (view c.in-Some.schema.now) = sym c.in_ok-schema.ensures ∙ ap (option_map (λ v. view v.now)) c.in-Some.is in
    made_there (kit g.L.Leaf.Leaf g.M.Engine.RegexEngine) (view c.args.document.now) c.args.targets.now c.args.text.now named c.in_ok-location-in-Some.ensures c.in_ok-node-in-Some.ensures.built
