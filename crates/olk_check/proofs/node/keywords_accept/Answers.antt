use Rattle.std.proofs.Common.{length, drop, refl, ap, ◌∙◌, length-drop, arith}
use Rattle.olk_base.specs.Kit.{kit}
use Rattle.olk_tree.specs.Validators.{validator_means}
use Rattle.olk_tree.proofs.Lists.{past_end}
use Rattle.olk_check.proofs.Answered.{refused_left, go_on_behind_one, go_on_behind_two, two_are_left}
use Rattle.olk_check.proofs.Walks.{all_end}
use Rattle.olk_check.proofs.node.keywords_accept.Goals.{in-One, in-Two}
use Rattle.olk_check.proofs.node.keywords_accept.Goals as goal

pub returns-in-None : goal.returns-in-None
returns-in-None g c = refused_left c.loop-left.invariant c.in-None.is c.first_accept.ensures

pub behind_first-left-requires-in-loop-left : goal.behind_first-left-requires-in-loop-left
behind_first-left-requires-in-loop-left g c = elim c.match-first_accept.branch [
  | in-One w ↦ let same = ap (λ r. length r.now) w.left-is in omega (arith, c.loop-left-test.true)
  | in-Two w ↦
      let same = ap (λ r. length r.now) w.left-is in
      let fewer = ap length w.behind_first-left.ensures in
      let two = two_are_left (λ k. validator_means (kit g.K.Leaf g.R.RegexEngine) g.N.Means.means k (g.A.Asked.stands_for c.args.asked)) c.loop-left.ctx c.first_accept.new.ctx c.loop-left.left.now w.in-Two.is c.first_accept.ensures in
      let dropped = length-drop 1 c.loop-left.left.now in
      omega arith
]

pub loop-left-smaller : goal.loop-left-smaller
loop-left-smaller g c =
    let fewer = ap length c.behind_first-left-in-loop-left.ensures in
    let dropped = length-drop 1 c.match-first_accept.left.now in
    elim c.match-first_accept.branch [
      | in-One w ↦ let same = ap (λ r. length r.now) w.left-is in omega (arith, c.loop-left-test.true)
      | in-Two w ↦
          let same = ap (λ r. length r.now) w.left-is in
          let one_fewer = ap length w.behind_first-left.ensures in
          let one_dropped = length-drop 1 c.loop-left.left.now in
          omega (arith, c.loop-left-test.true)
    ]

pub loop-left-preserved : goal.loop-left-preserved
loop-left-preserved g c =
    elim c.match-first_accept.branch [
      | in-One w ↦ rw (c.behind_first-left-in-loop-left.ensures ∙ ap (λ r. drop 1 r.now) w.left-is)
          (go_on_behind_one c.loop-left.invariant w.in-One.is c.first_accept.ensures)
      | in-Two w ↦ rw (c.behind_first-left-in-loop-left.ensures ∙ ap (λ r. drop 1 r.now) w.left-is ∙ ap (drop 1) w.behind_first-left.ensures)
          (go_on_behind_two c.loop-left.invariant w.in-Two.is c.first_accept.ensures)
    ]

pub returns : goal.returns
returns g c = all_end c.loop-left.invariant (past_end {xs = c.loop-left.left.now} {i = 0} refl (omega (arith, c.loop-left-test.false)))
