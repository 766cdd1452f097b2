use Rattle.std.specs.Prelude.{codes}
use Rattle.olk_tree.specs.Steps.{layer}
use Rattle.std.proofs.lemmas.Result.{IfOk-from_err}
use Rattle.serde_json.specs.View.{members_view}
use Rattle.olk_build.proofs.Spending.{exit, refuses_memory, within_nothing}
use Rattle.olk_build.proofs.CompiledPatterns.{refuses_pattern, refuses_node, refuses_entries, patterns_built}
use Rattle.olk_spec.specs.Names.{◌//◌}
use Rattle.olk_spec.specs.Schemas.{listed}
use Rattle.olk_build.proofs.pattern_properties.compile_patterns.Goals as goal

pub returns-in_err-location-clause-refused : goal.returns-in_err-location-clause-refused
returns-in_err-location-clause-refused g c = exit _ _ _ c.from_residual.ensures.1 (refuses_memory within_nothing)

pub returns-in_err-compiled-clause-refused : goal.returns-in_err-compiled-clause-refused
returns-in_err-compiled-clause-refused g c =
    exit _ _ _ c.from_residual-in_err-compiled.ensures.1 (refuses_pattern (layer g.L.Leaf.Leaf g.M.Engine.RegexEngine) g.N.BuiltNode.answers
    (listed (members_view c.args.patterns.now.entries)) c.in_ok-location.location (c.args.ctx.now.place // codes "patternProperties") c.in_ok-location.ensures c.args.ctx.now.meter.now
    c.patterns_of_entries.new.meter c.in_err-compiled.ensures.refused)

pub returns-in_err-nodes : goal.returns-in_err-nodes
returns-in_err-nodes g c = record {
  built = IfOk-from_err c.from_residual-in_err-nodes.result _ c.from_residual-in_err-nodes.ensures.0;
  refused = exit _ _ _ c.from_residual-in_err-nodes.ensures.1 (refuses_node (layer g.L.Leaf.Leaf g.M.Engine.RegexEngine) g.N.BuiltNode.answers
      (listed (members_view c.args.patterns.now.entries)) c.in_ok-location.location (c.args.ctx.now.place // codes "patternProperties") c.in_ok-location.ensures c.args.ctx.now.meter.now
      c.in_ok-compiled.compiled.items c.patterns_of_entries.new.meter c.compile_declared.new.ctx.meter.now c.in_ok-compiled.ensures.read c.in_err-nodes.ensures.refused);
  place = c.compile_declared.ensures.place;
  same_meter = c.compile_declared.ensures.same_meter;
}

pub returns-in_err-with_nodes : goal.returns-in_err-with_nodes
returns-in_err-with_nodes g c = record {
  built = IfOk-from_err c.from_residual-in_err-with_nodes.result _ c.from_residual-in_err-with_nodes.ensures.0;
  refused = exit _ _ _ c.from_residual-in_err-with_nodes.ensures.1 (refuses_entries (layer g.L.Leaf.Leaf g.M.Engine.RegexEngine) g.N.BuiltNode.answers
      (listed (members_view c.args.patterns.now.entries)) c.in_ok-location.location (c.args.ctx.now.place // codes "patternProperties") c.in_ok-location.ensures c.args.ctx.now.meter.now
      c.in_ok-compiled.compiled.items c.patterns_of_entries.new.meter c.compile_declared.new.ctx.meter.now c.in_ok-compiled.ensures.read c.in_ok-nodes.nodes.items c.in_ok-nodes.ensures.built);
  place = c.compile_declared.ensures.place;
  same_meter = c.compile_declared.ensures.same_meter;
}

pub returns : goal.returns
returns g c = record {
  built = patterns_built (layer g.L.Leaf.Leaf g.M.Engine.RegexEngine) g.N.BuiltNode.answers (listed (members_view c.args.patterns.now.entries)) c.in_ok-location.location
      (c.args.ctx.now.place // codes "patternProperties") c.in_ok-location.ensures c.args.ctx.now.meter.now
      c.in_ok-compiled.compiled.items c.patterns_of_entries.new.meter c.compile_declared.new.ctx.meter.now c.in_ok-compiled.ensures.read c.in_ok-nodes.nodes.items c.in_ok-nodes.ensures.built
      c.in_ok-with_nodes.field-0.items c.in_ok-with_nodes.ensures;
  refused = tt;
  place = c.compile_declared.ensures.place;
  same_meter = c.compile_declared.ensures.same_meter;
}
