use Rattle.plan.specs.Marks.{Grown, FirstsTo}
use Rattle.plan.specs.Stored.{seen}
use Rattle.plan.proofs.stored.Plan.mark_firsts.Given as goal

abbrev pub invariant-loop-named : goal.invariant-loop-named
invariant-loop-named l = Grown (seen l.self) l.direction l.initial.marks l.marks × FirstsTo (seen l.self) l.direction l.marks l.named-index
