use Rattle.std.proofs.Common.{length, inl, inr, ◌∙◌, ap, arith}
use Rattle.std.proofs.lemmas.List.{nil_from_length}
use Rattle.olk_build.proofs.PatternProperties.{MadeOf, both_next, no_pattern_left, no_node_left}
use Rattle.olk_build.proofs.Pairs.{one_made, all_made}
use Rattle.olk_build.proofs.pattern_properties.with_nodes.Goals as goal

pub loop-entry-preserved : goal.loop-entry-preserved
loop-entry-preserved g c =
    let patterns = c.in-Some.ensures.steps.0 in
    let nodes = c.in-Some.ensures.steps.1 in
    record {
      made =
          one_made MadeOf (c.args.patterns.items, c.args.nodes.items) (c.loop-entry.entry-iterator.a.rest.items, c.loop-entry.entry-iterator.b.rest.items)
          (c.next.new.self.a.rest.items, c.next.new.self.b.rest.items) c.loop-entry.entries.items c.append.new.items.items c.in-Some.entry c.in_ok-append.ensures.items
          (both_next c.loop-entry.entry-iterator.a.rest.items c.next.new.self.a.rest.items c.loop-entry.entry-iterator.b.rest.items c.next.new.self.b.rest.items c.in-Some.entry patterns.0 nodes.0) c.loop-entry.invariant.made;
      patterns = let e = ap length patterns.0 in omega (arith, e, patterns.1, c.loop-entry.invariant.patterns);
      nodes = let e = ap length nodes.0 in omega (arith, e, nodes.1, c.loop-entry.invariant.nodes);
      next = (tt, tt);
      ends = tt;
    }

pub returns : goal.returns
returns g c = all_made MadeOf (c.args.patterns.items, c.args.nodes.items) (c.loop-entry.entry-iterator.a.rest.items, c.loop-entry.entry-iterator.b.rest.items) c.loop-entry.entries.items
    (elim c.in-None.ensures.steps [
      | inl h ↦ no_pattern_left c.loop-entry.entry-iterator.a.rest.items c.loop-entry.entry-iterator.b.rest.items (nil_from_length _ (c.loop-entry.invariant.patterns ∙ h.1.0))
      | inr h ↦ no_node_left c.loop-entry.entry-iterator.a.rest.items c.loop-entry.entry-iterator.b.rest.items (nil_from_length _ (c.loop-entry.invariant.nodes ∙ h.1.0))
    ]) c.loop-entry.invariant.made
