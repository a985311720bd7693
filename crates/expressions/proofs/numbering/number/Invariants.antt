use Rattle.expressions.proofs.Numbered.{SoFar}
use Rattle.expressions.proofs.numbering.number.Given as goal

abbrev pub invariant-loop-lowest : goal.invariant-loop-lowest
invariant-loop-lowest l = SoFar l.nodes l.lowest l.table
