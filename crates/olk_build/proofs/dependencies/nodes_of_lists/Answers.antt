use Rattle.std.proofs.Common.{[], ◌∷◌, length, sym, ◌∙◌, ap, subst, arith, rules}
use Rattle.std.proofs.lemmas.List.{nil_from_length}
use Rattle.olk_base.specs.Kit.{kit}
use Rattle.olk_build.specs.Forms.{AreListsAt}
use Rattle.olk_build.proofs.Pairs.{none_made, one_made, all_made}
use Rattle.olk_build.proofs.dependencies.nodes_of_lists.Goals as goal

pub loop-list-init : goal.loop-list-init
loop-list-init g c = record {
  made =
      none_made (AreListsAt (kit g.K.Leaf g.R.RegexEngine) g.N.BuiltNode.answers c.args.location.now) c.args.lists.items c.into_iter-list-iterator.result.rest.items c.new-nodes.result.items c.into_iter-list-iterator.ensures.into_iter_gives.0 c.new-nodes.ensures.items;
  count = ap length c.into_iter-list-iterator.ensures.into_iter_gives.0 ∙ search rules ∙ sym c.into_iter-list-iterator.ensures.into_iter_gives.1;
  next = tt;
  ends = tt;
}

pub loop-list-preserved : goal.loop-list-preserved
loop-list-preserved g c = record {
  made =
      one_made (AreListsAt (kit g.K.Leaf g.R.RegexEngine) g.N.BuiltNode.answers c.args.location.now) c.args.lists.items c.loop-list.list-iterator.rest.items c.next.new.self.rest.items c.loop-list.nodes.items c.append.new.items.items c.in_ok-node.node c.in_ok-append.ensures.items
      (λ rest h. subst (λ ls. AreListsAt (kit g.K.Leaf g.R.RegexEngine) g.N.BuiltNode.answers c.args.location.now ls (c.in_ok-node.node ∷ rest))
      (sym c.in-Some.ensures.steps.0) (c.in_ok-node.ensures, h)) c.loop-list.invariant.made;
  count = let e = ap length c.in-Some.ensures.steps.0 in omega (arith, e, c.in-Some.ensures.steps.1, c.loop-list.invariant.count);
  next = tt;
  ends = tt;
}

pub returns : goal.returns
returns g c = all_made (AreListsAt (kit g.K.Leaf g.R.RegexEngine) g.N.BuiltNode.answers c.args.location.now) c.args.lists.items c.loop-list.list-iterator.rest.items c.loop-list.nodes.items
    (subst (λ ls. AreListsAt (kit g.K.Leaf g.R.RegexEngine) g.N.BuiltNode.answers c.args.location.now ls [])
    (sym (nil_from_length _ (c.loop-list.invariant.count ∙ c.in-None.ensures.steps.0))) tt) c.loop-list.invariant.made
