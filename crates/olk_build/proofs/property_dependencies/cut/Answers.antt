use Rattle.std.proofs.Common.{[], ◌∷◌, min, length, refl, sym, ◌∙◌, ap, subst, arith, length-append}
use Rattle.std.proofs.lemmas.List.{nil_from_length}
use Rattle.olk_build.specs.Forms.{AreCut}
use Rattle.olk_build.proofs.PropertyDependencies.{MadeByCutting, one_cut}
use Rattle.olk_build.proofs.Pairs.{one_made, all_made}
use Rattle.olk_build.proofs.property_dependencies.cut.Goals as goal

pub loop-names-preserved : goal.loop-names-preserved
loop-names-preserved g c = record {
  made = one_made MadeByCutting (c.args.texts.items, c.args.nodes.items) (c.loop-names.names-iterator.rest.items, c.loop-names.nodes.rest.items)
      (c.next.new.self.rest.items, c.take_next.new.nodes.rest.items) c.loop-names.maps.items c.append.new.items.items record { names = c.in-Some.names; nodes = c.in_ok-nodes.nodes } c.in_ok-append.ensures.items
      (λ rest h. subst (λ ls. AreCut ls c.loop-names.nodes.rest.items (record { names = c.in-Some.names; nodes = c.in_ok-nodes.nodes } ∷ rest)) (sym c.in-Some.ensures.steps.0)
      (one_cut c.len.result c.loop-names.nodes.rest.items c.in_ok-nodes.nodes.items c.take_next.new.nodes.rest.items c.in_ok-nodes.ensures.items (c.in_ok-nodes.ensures.count ∙ ap (min c.len.result) (sym c.loop-names.invariant.nodes)) c.in-Some.names (sym c.len.ensures.len) record { names = c.in-Some.names; nodes = c.in_ok-nodes.nodes } (refl, refl) c.next.new.self.rest.items rest h))
      c.loop-names.invariant.made;
  nodes =
      let e = ap length c.in_ok-nodes.ensures.items ∙ length-append c.in_ok-nodes.nodes.items c.take_next.new.nodes.rest.items in
      omega (arith, e, c.in_ok-nodes.ensures.left, c.loop-names.invariant.nodes);
  count = let e = ap length c.in-Some.ensures.steps.0 in omega (arith, e, c.in-Some.ensures.steps.1, c.loop-names.invariant.count);
  next = tt;
  ends = tt;
}

pub returns : goal.returns
returns g c = all_made MadeByCutting (c.args.texts.items, c.args.nodes.items) (c.loop-names.names-iterator.rest.items, c.loop-names.nodes.rest.items) c.loop-names.maps.items
    (subst (λ ls. AreCut ls c.loop-names.nodes.rest.items []) (sym (nil_from_length _ (c.loop-names.invariant.count ∙ c.in-None.ensures.steps.0))) tt) c.loop-names.invariant.made
