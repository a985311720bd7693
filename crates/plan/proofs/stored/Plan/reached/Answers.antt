use Rattle.plan.specs.Stored.{seen}
use Rattle.plan.proofs.Opened.{opened}
use Rattle.plan.proofs.Marking.{none_right, marks_exact}
use Rattle.plan.proofs.stored.Plan.reached.Goals as goal

pub loop-direction-init : goal.loop-direction-init
loop-direction-init c =
    let first = c.mark_firsts.ensures in
    (first.grown.right (none_right (seen c.args.self.now) c.args.direction 256), first.firsts)

pub returns : goal.returns
returns c =
    let p = seen c.args.self.now in
    let before = c.loop-direction.invariant in
    let grown = c.spread.ensures.grown in
    marks_exact p (opened p c.args.self.now.sound) c.args.direction c.spread.new.marks (grown.right before.0)
    (λ r e h is. grown.kept _ (before.1 r e h is)) c.loop-direction-test.ensures.told
