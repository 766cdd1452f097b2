use Rattle.std.proofs.Common.{◌≡◌}
use Rattle.serde_json.specs.View.{view}
use Rattle.olk_base.specs.Kit.{kit}
use Rattle.olk_document_build.specs.Documents.{AreMadeUnder, with_texts}
use Rattle.olk_document_build.proofs.Rounds.{texts_to}
use Rattle.olk_document_build.proofs.document.compile_round.Given as goal

-- nodes for the texts so far
abbrev pub invariant-loop-text : goal.invariant-loop-text
invariant-loop-text g l = record {
  so_far : AreMadeUnder (kit g.L.Leaf.Leaf g.M.Engine.RegexEngine) (view l.fn.document) l.fn.targets (texts_to l.text-items l.text-index) (with_texts l.nodes.items);
  place : l.ctx.place ≡ l.fn.ctx.place;
  same_meter : l.ctx.meter.ghost_name ≡ l.fn.ctx.meter.ghost_name;
}
