use Rattle.std.proofs.Common.{◌≡◌, ◌+◌, ◌-◌, suc, length, refl, sym, ap, ◌∙◌, arith}
use Rattle.olk_regexes.specs.Classes.{all_members}
use Rattle.olk_regexes.specs.Seen.{seen, seen_member, members_of}
use Rattle.olk_regexes.proofs.Members.{members_end, members_none, members_more, members_out}
use Rattle.olk_regexes.proofs.classes.read_members.Goals as goal

pub loop-init : goal.loop-init
loop-init c =
    let e : length c.args.text.now + 1 - 0 ≡ suc (length c.args.text.now) = omega arith in
    rw (e, c.new-members.ensures.items) refl

pub returns-in-Some : goal.returns-in-Some
returns-in-Some c =
    members_end (length c.args.text.now + 1 - c.loop.counter) c.loop.members.items c.loop.rest.now c.in-Some.behind.now _
    (omega arith) (sym (ap seen c.in-Some.is) ∙ c.class_end.ensures) c.loop.invariant

pub returns-in-None : goal.returns-in-None
returns-in-None c =
    members_none (length c.args.text.now + 1 - c.loop.counter) c.loop.members.items c.loop.rest.now _
    (sym (ap seen c.in_default.is) ∙ c.class_end.ensures) (sym (ap seen_member c.in-None.is) ∙ c.read_member.ensures) c.loop.invariant

pub loop-preserved : goal.loop-preserved
loop-preserved c =
    let k = members_more (length c.args.text.now + 1 - c.loop.counter) (length c.args.text.now + 1 - (c.loop.counter + 1)) c.loop.members.items
    (members_of c.in-Some-read_member.member) c.loop.rest.now c.in-Some-read_member.behind.now (all_members c.args.text.now) (omega arith)
    (sym (ap seen c.in_default.is) ∙ c.class_end.ensures) (sym (ap seen_member c.in-Some-read_member.is) ∙ c.read_member.ensures) c.loop.invariant in
    rw c.in_ok-add-in-Some-read_member.ensures k

pub returns : goal.returns
returns c =
    members_out (length c.args.text.now + 1 - c.loop.counter) c.loop.members.items c.loop.rest.now _ (omega arith) c.loop.invariant
