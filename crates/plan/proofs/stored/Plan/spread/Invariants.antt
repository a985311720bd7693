use Rattle.plan.specs.Stored.{seen}
use Rattle.plan.proofs.Marking.{Round}
use Rattle.plan.proofs.stored.Plan.spread.Given as goal

abbrev pub invariant-loop-arc : goal.invariant-loop-arc
invariant-loop-arc l = Round (seen l.self) l.direction l.changed l.initial.marks l.marks l.arc-index
