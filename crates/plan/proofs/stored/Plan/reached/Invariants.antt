use Rattle.std.proofs.Common.{length}
use Rattle.plan.specs.Marks.{Right, FirstsTo, unset}
use Rattle.plan.specs.Stored.{seen}
use Rattle.plan.proofs.stored.Plan.reached.Given as goal

abbrev pub invariant-loop-direction : goal.invariant-loop-direction
invariant-loop-direction l =
    Right (seen l.self) l.direction l.marks × FirstsTo (seen l.self) l.direction l.marks (length (seen l.self).ends)

abbrev pub decreases-loop-direction : goal.decreases-loop-direction
decreases-loop-direction l = unset l.marks
