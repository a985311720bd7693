-- What the effects of one region are when it is solved.
use Rattle.std.specs.Prelude.{◌≡◌, ℕ, List, length, Some}
use Rattle.plan.specs.declared.node.Ends.{Ends}
use Rattle.plan.specs.declared.node.Direction.{Direction}
use Rattle.plan.specs.Drawn.{Drawn, ends_at}
use Rattle.plan.specs.Paths.{last_in}
use Rattle.kinds.specs.declared.effect.Effect.{Effect}
use Rattle.kinds.specs.Kinds.{Algebra}
use Rattle.kinds.specs.Effects.{followed}
use Rattle.runs.specs.Actions.{steps_of}
use Rattle.runs.specs.Scheme.{Lowered}
use Rattle.sweep.specs.Slots.{slot}
use Rattle.sweep.specs.Rounds.{node_does, SettledTo}

module _ {V G : Type 0} (a : Algebra V G) (p : Drawn) where
  -- region r is solved: its node effects are lowered from their start, no arc brings more, and its own effect is taken from its last node
  pub record SolvedIn (d : Direction) (r : ℕ) (nodes regions : List (Effect G V)) : Type 0 where
    pub lowered : Lowered a p d (steps_of a p) (slot a regions) r (slot a nodes)
    pub settled : SettledTo a p regions d r nodes (length p.arcs)
    pub region : (e : Ends) → ends_at p r ≡ Some e → slot a regions r ≡ followed a (slot a nodes (last_in d e)) (node_does a p regions (last_in d e))
