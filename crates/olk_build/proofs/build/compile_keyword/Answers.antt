use Rattle.serde_json.specs.View.{view, members_view}
use Rattle.olk_tree.specs.Steps.{layer}
use Rattle.olk_build.proofs.Member.{gives_member, gives_form, gives_some}
use Rattle.olk_build.proofs.build.compile_keyword.Goals as goal

pub returns-clause-gives : goal.returns-clause-gives
returns-clause-gives g c =
    rw c.transpose.ensures (gives_member (layer g.L.Leaf.Leaf g.M.Engine.RegexEngine) g.N.BuiltNode.answers (members_view c.args.parent.now.entries) (c.args.name.now, view c.args.value.now) c.args.ctx.now.place c.args.ctx.now.meter.now c.compile_member.new.ctx.meter.now c.compile_member.result c.compile_member.ensures.built c.compile_member.ensures.refused)

pub returns-clause-form : goal.returns-clause-form
returns-clause-form g c =
    rw c.transpose.ensures (gives_form (layer g.L.Leaf.Leaf g.M.Engine.RegexEngine) g.N.BuiltNode.answers (members_view c.args.parent.now.entries) (c.args.name.now, view c.args.value.now) c.args.ctx.now.place c.args.ctx.now.meter.now c.compile_member.new.ctx.meter.now c.compile_member.result c.compile_member.ensures.built)

pub returns-clause-some : goal.returns-clause-some
returns-clause-some g c =
    rw c.transpose.ensures (gives_some (layer g.L.Leaf.Leaf g.M.Engine.RegexEngine) g.N.BuiltNode.answers (members_view c.args.parent.now.entries) (c.args.name.now, view c.args.value.now) c.args.ctx.now.place c.args.ctx.now.meter.now c.compile_member.new.ctx.meter.now c.compile_member.result c.compile_member.ensures.built)
