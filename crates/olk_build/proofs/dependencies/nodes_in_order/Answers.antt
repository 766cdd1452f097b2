use Rattle.std.proofs.Common.{[], ◌∷◌, length, refl, sym, ◌∙◌, ap, subst, arith, rules}
use Rattle.std.proofs.lemmas.List.{nil_from_length}
use Rattle.olk_base.specs.Kit.{kit}
use Rattle.olk_build.specs.Forms.{AreInOrder}
use Rattle.olk_build.proofs.DependencyKeywords.{MadeInOrder, list_next, schema_next, no_schema_next}
use Rattle.olk_build.proofs.Pairs.{none_made, one_made, nothing_made, all_made}
use Rattle.olk_build.proofs.dependencies.nodes_in_order.Goals as goal

pub loop-list-init : goal.loop-list-init
loop-list-init g c = record {
  made = none_made (MadeInOrder (kit g.K.Leaf g.R.RegexEngine) g.N.BuiltNode.answers c.args.location.now) (c.args.lists.items, c.args.schemas.items)
      (c.into_iter-list-iterator.result.rest.items, c.into_iter-schemas.result.rest.items) c.new-nodes.result.items
      (λ i. (c.into_iter-list-iterator.ensures.into_iter_gives.0 i, c.into_iter-schemas.ensures.rest i)) c.new-nodes.ensures.items;
  schemas = ap length c.into_iter-schemas.ensures.rest ∙ search rules ∙ sym c.into_iter-schemas.ensures.len;
  count = ap length c.into_iter-list-iterator.ensures.into_iter_gives.0 ∙ search rules ∙ sym c.into_iter-list-iterator.ensures.into_iter_gives.1;
  next = tt;
  ends = tt;
}

pub loop-list-preserved-in_ok-append-in-Some-list : goal.loop-list-preserved-in_ok-append-in-Some-list
loop-list-preserved-in_ok-append-in-Some-list g c = record {
  made = one_made (MadeInOrder (kit g.K.Leaf g.R.RegexEngine) g.N.BuiltNode.answers c.args.location.now) (c.args.lists.items, c.args.schemas.items)
      (c.loop-list.list-iterator.rest.items, c.loop-list.schemas.rest.items)
      (c.next.new.self.rest.items, c.loop-list.schemas.rest.items) c.loop-list.nodes.items c.append.new.items.items c.in_ok-node_of_list-in-Some-list.field-0 c.in_ok-append-in-Some-list.ensures.items
      (λ rest. list_next _ _ c.args.location.now c.loop-list.list-iterator.rest.items c.next.new.self.rest.items c.loop-list.schemas.rest.items c.loop-list.schemas.rest.items rest c.in-Some-list.names c.in_ok-node_of_list-in-Some-list.field-0 (c.in-Some.ensures.steps.0 ∙ ap (λ l. l ∷ c.next.new.self.rest.items) c.in-Some-list.is) c.in_ok-node_of_list-in-Some-list.ensures) c.loop-list.invariant.made;
  schemas = c.loop-list.invariant.schemas;
  count = let e = ap length c.in-Some.ensures.steps.0 in omega (arith, e, c.in-Some.ensures.steps.1, c.loop-list.invariant.count);
  next = tt;
  ends = tt;
}

pub loop-list-preserved-in_ok-append-in-None-list : goal.loop-list-preserved-in_ok-append-in-None-list
loop-list-preserved-in_ok-append-in-None-list g c = record {
  made = one_made (MadeInOrder (kit g.K.Leaf g.R.RegexEngine) g.N.BuiltNode.answers c.args.location.now) (c.args.lists.items, c.args.schemas.items)
      (c.loop-list.list-iterator.rest.items, c.loop-list.schemas.rest.items)
      (c.next.new.self.rest.items, c.next-in-None-list.new.self.rest.items) c.loop-list.nodes.items c.append-in-Some-next.new.items.items c.in-Some-next.node c.in_ok-append-in-None-list.ensures.items
      (λ rest. schema_next _ _ c.args.location.now c.loop-list.list-iterator.rest.items c.next.new.self.rest.items c.loop-list.schemas.rest.items c.next-in-None-list.new.self.rest.items rest c.in-Some-next.node (c.in-Some.ensures.steps.0 ∙ ap (λ l. l ∷ c.next.new.self.rest.items) c.in-None-list.is) c.in-Some-next.ensures.items) c.loop-list.invariant.made;
  schemas = let e = ap length c.in-Some-next.ensures.cases.0 in omega (arith, e, c.in-Some-next.ensures.cases.1, c.loop-list.invariant.schemas);
  count = let e = ap length c.in-Some.ensures.steps.0 in omega (arith, e, c.in-Some.ensures.steps.1, c.loop-list.invariant.count);
  next = tt;
  ends = tt;
}

pub loop-list-preserved : goal.loop-list-preserved
loop-list-preserved g c =
    let none = nil_from_length c.loop-list.schemas.rest.items (c.loop-list.invariant.schemas ∙ c.in_default.ensures.cases.0) in
    let none_left = sym c.in_default.ensures.items ∙ none in
    record {
      made =
          nothing_made (MadeInOrder (kit g.K.Leaf g.R.RegexEngine) g.N.BuiltNode.answers c.args.location.now) (c.args.lists.items, c.args.schemas.items)
          (c.loop-list.list-iterator.rest.items, c.loop-list.schemas.rest.items) (c.next.new.self.rest.items, c.next-in-None-list.new.self.rest.items) c.loop-list.nodes.items
          (λ rest. no_schema_next _ _ c.args.location.now c.loop-list.list-iterator.rest.items c.next.new.self.rest.items c.loop-list.schemas.rest.items c.next-in-None-list.new.self.rest.items rest (c.in-Some.ensures.steps.0 ∙ ap (λ l. l ∷ c.next.new.self.rest.items) c.in-None-list.is) none none_left) c.loop-list.invariant.made;
      schemas = ap length none_left ∙ sym c.in_default.ensures.cases.1;
      count = let e = ap length c.in-Some.ensures.steps.0 in omega (arith, e, c.in-Some.ensures.steps.1, c.loop-list.invariant.count);
      next = tt;
      ends = tt;
    }

pub returns : goal.returns
returns g c =
    all_made (MadeInOrder (kit g.K.Leaf g.R.RegexEngine) g.N.BuiltNode.answers c.args.location.now) (c.args.lists.items, c.args.schemas.items)
    (c.loop-list.list-iterator.rest.items, c.loop-list.schemas.rest.items) c.loop-list.nodes.items
    (subst (λ ls. AreInOrder (kit g.K.Leaf g.R.RegexEngine) g.N.BuiltNode.answers c.args.location.now ls c.loop-list.schemas.rest.items [])
    (sym (nil_from_length _ (c.loop-list.invariant.count ∙ c.in-None.ensures.steps.0))) refl) c.loop-list.invariant.made
