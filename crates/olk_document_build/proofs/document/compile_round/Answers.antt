use Rattle.std.proofs.Common.{ℕ, List, [], Bor, slice_index_or as get_or, sym, ◌∙◌, ap, subst}
use Rattle.olk_spec.specs.Names.{Text}
use Rattle.serde_json.specs.View.{view}
use Rattle.olk_base.specs.Kit.{kit}
use Rattle.olk_build.proofs.Spending.{exit_with}
use Rattle.olk_document_build.specs.Documents.{AreMadeUnder, with_texts}
use Rattle.olk_document_build.specs.References.{as_texts}
use Rattle.olk_document_build.proofs.Rounds.{text_passed, text_among, all_texts, refused_one}
use Rattle.olk_document_build.proofs.document.compile_round.Goals as goal

-- the text at a position
abbrev nowhere : Bor Text
nowhere = record { ref_ptr = (0, 0); now = [] }

abbrev here : List (Bor Text) → ℕ → Bor Text
here ts i = get_or ts i (record { ref_ptr = (0, 0); now = [] })

pub returns-in_err-compile_text-clause-refused : goal.returns-in_err-compile_text-clause-refused
returns-in_err-compile_text-clause-refused g c =
    exit_with _ _ _ c.from_residual.ensures.1
    (rw c.deref-text-items.ensures.value at (refused_one (kit g.L.Leaf.Leaf g.M.Engine.RegexEngine) (view c.args.document.now) c.args.targets.now (as_texts c.deref-text-items.result.now) (here c.deref-text-items.result.now c.loop-text.text-index).now
    (text_among c.deref-text-items.result.now c.loop-text.text-index nowhere c.loop-text-test.true) _ c.in_err-compile_text.ensures.refused))

pub loop-text-preserved : goal.loop-text-preserved
loop-text-preserved g c = record {
  so_far = subst (λ ts. AreMadeUnder (kit g.L.Leaf.Leaf g.M.Engine.RegexEngine) (view c.args.document.now) c.args.targets.now ts (with_texts c.compile_text.new.nodes.items))
      (sym (text_passed c.deref-text-items.result.now c.loop-text.text-index nowhere c.loop-text-test.true)) (c.in_ok-compile_text.ensures.built _ c.loop-text.invariant.so_far);
  place = c.in_ok-compile_text.ensures.place ∙ c.loop-text.invariant.place;
  same_meter = c.in_ok-compile_text.ensures.same_meter ∙ c.loop-text.invariant.same_meter;
}

pub returns-clause-built : goal.returns-clause-built
returns-clause-built g c =
    subst (λ ts. AreMadeUnder (kit g.L.Leaf.Leaf g.M.Engine.RegexEngine) (view c.args.document.now) c.args.targets.now ts (with_texts c.loop-text.nodes.items))
    (all_texts c.deref-text-items.result.now c.loop-text.text-index c.loop-text-test.false ∙ ap as_texts c.deref-text-items.ensures.value) c.loop-text.invariant.so_far
