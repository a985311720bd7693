-- What rounds along the arcs of a region do to the effects of its nodes.
use Rattle.std.specs.Prelude.{◌≡◌, ℕ, ◌+◌, ◌<◌, List, [], ◌∷◌, length, ◌≢◌, slice_set}
use Rattle.plan.specs.declared.node.Arc.{Arc}
use Rattle.plan.specs.declared.node.Direction.{Direction}
use Rattle.plan.specs.Drawn.{Drawn, node_at, arc_at, region_of}
use Rattle.plan.specs.Paths.{turned}
use Rattle.kinds.specs.declared.effect.Effect.{Effect}
use Rattle.kinds.specs.Kinds.{Algebra}
use Rattle.kinds.specs.Effects.{followed, either_way}
use Rattle.runs.specs.Actions.{steps_of}
use Rattle.runs.specs.Scheme.{does, Lowered}
use Rattle.sweep.specs.Slots.{slot}

module _ {V G : Type 0} (a : Algebra V G) where
  abbrev pub effect_rank : Effect G V → ℕ
  effect_rank e = a.gate_rank e.gate + a.rank e.forced

  -- the sum of all ranks, which falls with every change
  abbrev pub rank_sum : List (Effect G V) → ℕ
  rank_sum [] = 0
  rank_sum (e ∷ es) = effect_rank e + rank_sum es

module _ {V G : Type 0} (a : Algebra V G) (p : Drawn) (regions : List (Effect G V)) where
  -- what a node does, with the region effects so far
  abbrev pub node_does : ℕ → Effect G V
  node_does n = does a p (steps_of a p) (slot a regions) n

  -- what an arc brings to the node that it leads to, met with what is there
  abbrev pub brought : List (Effect G V) → Arc → Effect G V
  brought es arc = either_way a (slot a es arc.to) (followed a (slot a es arc.from) (node_does arc.from))

  -- an arc of region r brings nothing new
  abbrev pub Settled : ℕ → List (Effect G V) → Arc → Type 0
  Settled r es arc = region_of (node_at p arc.from) ≡ r → brought es arc ≡ slot a es arc.to

  -- an arc of region r lowered the effects
  pub record Lowers (r : ℕ) (before after : List (Effect G V)) (arc : Arc) : Type 0 where
    pub inside : region_of (node_at p arc.from) ≡ r
    pub is : after ≡ slice_set before arc.to (brought before arc)
    pub falls : rank_sum a after < rank_sum a before

  -- the first n arcs bring nothing new
  abbrev pub SettledTo : Direction → ℕ → List (Effect G V) → ℕ → Type 0
  SettledTo d r es n = (k : ℕ) → k < n → Settled r es (turned d (arc_at p k))

  -- effects lowered along arcs of region r: they come from where those before came from, and other regions have theirs as before
  pub record Lowering (d : Direction) (r : ℕ) (before after : List (Effect G V)) : Type 0 where
    pub lowered : Lowered a p d (steps_of a p) (slot a regions) r (slot a before) → Lowered a p d (steps_of a p) (slot a regions) r (slot a after)
    pub others : (n : ℕ) → n < length p.nodes → (region_of (node_at p n) ≢ r) → slot a after n ≡ slot a before n
    pub long : length after ≡ length before
