use Rattle.std.proofs.Common.{Some, None, sym, subst, append-nil}
use Rattle.std.proofs.lemmas.Result.{on_ok_weaker}
use Rattle.olk_meaning.specs.Plans.{planned}
use Rattle.olk_build.specs.Taking.{MakesTaking}
use Rattle.olk_build.proofs.taking.append_taking.Goals as goal

pub returns-in-Some : goal.returns-in-Some
returns-in-Some g c = on_ok_weaker c.append.result (λ e I. record {
  made = Some c.in-Some.keyword;
  behind = e;
  makes = subst (MakesTaking I g.N.BuiltNode.answers c.args.part.shape c.args.part.location c.args.part.nodes.items c.args.taken c.args.place.now (planned c.args.plan)) c.in-Some.is (c.in_ok-keyword.ensures I);
}) c.append.ensures.items

pub returns-in-None : goal.returns-in-None
returns-in-None g c I = record {
  made = None;
  behind = sym (append-nil c.args.keywords.now.items);
  makes = subst (MakesTaking I g.N.BuiltNode.answers c.args.part.shape c.args.part.location c.args.part.nodes.items c.args.taken c.args.place.now (planned c.args.plan)) c.in-None.is (c.in_ok-keyword.ensures I);
}
