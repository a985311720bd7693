-- What a sweep finds for every node of a plan.
use Rattle.std.specs.Prelude.{◌≡◌, List, length}
use Rattle.plan.specs.declared.node.Direction.{Direction}
use Rattle.plan.specs.Drawn.{Drawn}
use Rattle.plan.specs.Paths.{Whole}
use Rattle.kinds.specs.Kinds.{Algebra}
use Rattle.sweep.specs.Swept.{ValuesMeet}

-- the values are those that a sweep of the plan finds, in as many slots as a plan may have nodes
pub record Finds {V G : Type 0} (a : Algebra V G) (p : Drawn) (d : Direction) (start : V) (values : List V) : Type 0 where
  pub whole : Whole p
  pub meets : ValuesMeet a p d start values
  pub long : length values ≡ 256
