use Rattle.std.proofs.Common.{Some, None, sym, subst, option_to_list, append-nil}
use Rattle.std.proofs.lemmas.Result.{on_ok_weaker}
use Rattle.olk_meaning.specs.Plans.{planned}
use Rattle.olk_build.proofs.TakenParts.{makes_nothing}
use Rattle.olk_build.specs.{Made.IsMade, Making.MakesPart}
use Rattle.olk_build.proofs.taking.append_other.Goals as goal

pub returns-in-Some : goal.returns-in-Some
returns-in-Some g c = on_ok_weaker c.append.result (λ e I. record {
  made = Some c.in-Some.keyword;
  behind = e;
  makes = makes_nothing I g.N.BuiltNode.answers c.args.part.shape c.args.part.nodes.items c.take_nothing-nothing.result
      (subst (λ x. MakesPart I g.N.BuiltNode.answers c.args.part.shape c.args.part.location c.args.part.nodes.items c.take_nothing-nothing.result c.args.place.now (planned c.args.plan) (option_to_list x)) c.in-Some.is (c.in_ok-keyword.ensures.makes I))
      (subst (IsMade I g.N.BuiltNode.answers c.args.part.shape c.args.part.location c.args.part.nodes.items c.take_nothing-nothing.result c.args.place.now (planned c.args.plan)) c.in-Some.is (c.in_ok-keyword.ensures.form I));
}) c.append.ensures.items

pub returns : goal.returns
returns g c I = record {
  made = None;
  behind = sym (append-nil c.args.keywords.now.items);
  makes = makes_nothing I g.N.BuiltNode.answers c.args.part.shape c.args.part.nodes.items c.take_nothing-nothing.result
      (subst (λ x. MakesPart I g.N.BuiltNode.answers c.args.part.shape c.args.part.location c.args.part.nodes.items c.take_nothing-nothing.result c.args.place.now (planned c.args.plan) (option_to_list x)) c.in-None.is (c.in_ok-keyword.ensures.makes I))
      (subst (IsMade I g.N.BuiltNode.answers c.args.part.shape c.args.part.location c.args.part.nodes.items c.take_nothing-nothing.result c.args.place.now (planned c.args.plan)) c.in-None.is (c.in_ok-keyword.ensures.form I));
}
