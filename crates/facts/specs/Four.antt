-- The values of four variables at once, as a pair of pairs.
use Rattle.pairs.specs.declared.pair.Pair.{Pair}
use Rattle.facts.specs.declared.constant.Constant.{Constant}
use Rattle.facts.specs.declared.constant.Door.{Door}
use Rattle.facts.specs.declared.fixed.Fixed as declared
use Rattle.facts.specs.Fixed.{fixed}
use Rattle.kinds.specs.Kinds.{Algebra}
use Rattle.pairs.specs.Pairs.{paired}

abbrev pub two : Pair declared.Fixed declared.Fixed → Algebra (Pair Constant Constant) (Pair Door Door)
two k = paired (fixed k.left.variable) (fixed k.right.variable)

abbrev pub four : Pair (Pair declared.Fixed declared.Fixed) (Pair declared.Fixed declared.Fixed)
    → Algebra (Pair (Pair Constant Constant) (Pair Constant Constant)) (Pair (Pair Door Door) (Pair Door Door))
four k = paired (two k.left) (two k.right)
