use Rattle.olk_build.proofs.TakenParts.{makes_taking}
use Rattle.olk_build.proofs.taking.make_taking.Goals as goal

pub returns : goal.returns
returns g c I =
    makes_taking I g.N.BuiltNode.answers c.args.part.shape c.args.part.nodes.items c.args.taken (c.in_ok-keyword.ensures.makes I) (c.in_ok-keyword.ensures.form I)
