-- Dead variables, one bit for each of the 16 variables; the other bits are 1.
use Rattle.std.specs.Prelude.{ℕ, Bool, ◌&&◌, List, nat_lt}
use Rattle.bitset.specs.declared.bits.Bits.{Bits}
use Rattle.kinds.specs.declared.effect.Effect.{Effect}
use Rattle.facts.specs.Masks.{setting}
use Rattle.expressions.specs.Variables.{among}

-- bit v stands for one of the variables of a list
abbrev pub stands_for : List ℕ → ℕ → Bool
stands_for vs v = nat_lt v 16 && among v vs

-- A variable that a step uses is not dead before it. One that it assigns and does not use is dead before it.
-- Any other is dead before it if it is dead behind it.
abbrev pub dead_effect : List ℕ → List ℕ → Effect Bits Bits
dead_effect used assigned = setting (stands_for used) (stands_for assigned)
