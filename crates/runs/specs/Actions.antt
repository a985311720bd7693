-- What words do to values.
use Rattle.std.specs.Prelude.{ℕ, List, [], ◌∷◌}
use Rattle.plan.specs.declared.node.Node.{Node}
use Rattle.plan.specs.declared.node.Node.TheVariants.{Step, Fork}
use Rattle.plan.specs.Drawn.{Drawn, node_at}
use Rattle.kinds.specs.declared.effect.Effect.{Effect}
use Rattle.kinds.specs.Kinds.{Algebra}
use Rattle.kinds.specs.Effects.{act, passing, beside}

module _ {V G : Type 0} (a : Algebra V G) where
  -- a word acts by its steps, the first step first; `steps` gives the effect of each
  abbrev pub run : (ℕ → Effect G V) → List ℕ → V → V
  run steps [] x = x
  run steps (n ∷ w) x = run steps w (act a (steps n) x)

  -- the joint effect of the regions of a list: their gates in series, and their forced values met
  abbrev pub joint : (ℕ → Effect G V) → List ℕ → Effect G V
  joint regions [] = passing a
  joint regions (q ∷ qs) = beside a (regions q) (joint regions qs)

  -- the effect of a step by its statement; a fork's is never asked for
  abbrev pub of_node : ℕ → Node → Effect G V
  of_node n (Step r s) = a.effect n s
  of_node n (Fork r b k) = passing a

  -- the effects of the steps of a plan
  abbrev pub steps_of : Drawn → ℕ → Effect G V
  steps_of p n = of_node n (node_at p n)
