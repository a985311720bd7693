use Rattle.std.proofs.Common.{Bool}
use Rattle.plan.specs.declared.node.Node.{Node}
use Rattle.bitset.specs.declared.bits.Bits.{Bits}
use Rattle.report.specs.Listing.{Filled, TestedBy, marks}
use Rattle.report.proofs.listing.mark.Given as goal

abbrev pub invariant-loop-n : goal.invariant-loop-n
invariant-loop-n g l = (f : Node → Bits → Bool) → TestedBy (goal.F-post g l.test) l.nodes l.values f → Filled 0 (marks f l.nodes l.values) l.n l.initial.out l.out
