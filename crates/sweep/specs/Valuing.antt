-- Side values, and values from the outermost region inwards.
use Rattle.std.specs.Prelude.{◌≡◌, ℕ, zero, suc, ◌+◌, ◌<◌, ◌≤◌, List, [], ◌∷◌, length, take, drop, Some, None, Option}
use Rattle.plan.specs.declared.node.Node.{Node}
use Rattle.plan.specs.declared.node.Node.TheVariants.{Step, Fork}
use Rattle.plan.specs.declared.node.Ends.{Ends}
use Rattle.plan.specs.Drawn.{Drawn, node_at, ends_at, region_of, Lies}
use Rattle.kinds.specs.declared.effect.Effect.{Effect}
use Rattle.kinds.specs.Kinds.{Algebra}
use Rattle.kinds.specs.Effects.{act}
use Rattle.runs.specs.Words.{Forks}
use Rattle.runs.specs.Actions.{steps_of}
use Rattle.runs.specs.Scheme.{Pick, met, all_force}
use Rattle.sweep.specs.Slots.{slot, forced_slot, value_slot}

module _ {V G : Type 0} (a : Algebra V G) where
  -- the meet of the forced values of a row of effects
  abbrev pub met_of : List (Effect G V) → V
  met_of [] = a.top
  met_of (e ∷ es) = a.meet e.forced (met_of es)

  -- the same of all but the one at a place
  abbrev pub met_but : List (Effect G V) → ℕ → V
  met_but [] i = a.top
  met_but (e ∷ es) zero = met_of es
  met_but (e ∷ es) (suc i) = a.meet e.forced (met_but es i)

module _ {V G : Type 0} (a : Algebra V G) (p : Drawn) where
  -- the slots of the regions from r on hold what the steps in them force, however deep
  abbrev pub ForcedFrom : ℕ → List (Effect G V) → Type 0
  ForcedFrom r forces = (q : ℕ) → r ≤ q → q < length p.ends → forced_slot a forces q ≡ all_force a (steps_of a p) (forced_slot a forces) q 0 p.nodes

abbrev pub first_or : ℕ → Option Ends → ℕ
first_or n None = n
first_or n (Some e) = e.first

-- the first node of a region; until the region is filled in, its slot holds the region's side value
abbrev pub home : Drawn → ℕ → ℕ
home p q = first_or 0 (ends_at p q)

-- region q is a branch of the node
abbrev pub Branch : Node → ℕ → Type 0
Branch (Step r s) q = ⊥
Branch (Fork r b k) q = (b ≤ q) × (q < b + k)

-- the first i of k branches from b on have their side values: what is outside, met with what the other branches force
pub record EnteredTo {V G : Type 0} (a : Algebra V G) (p : Drawn) (forces : List (Effect G V)) (b k : ℕ) (outer : V) (before after : List V) (i : ℕ) : Type 0 where
  pub side : (j : ℕ) → j < i → value_slot a after (home p (b + j)) ≡ a.meet outer (met_but a (take k (drop b forces)) j)
  pub kept : (m : ℕ) → region_of (node_at p m) < b → value_slot a after m ≡ value_slot a before m
  pub long : length after ≡ length before

-- region 0 and the branches of the forks below n have their side values
pub record SidesTo {V G : Type 0} (a : Algebra V G) (p : Drawn) (forces : List (Effect G V)) (sides : List V) (n : ℕ) : Type 0 where
  pub outermost : value_slot a sides (home p 0) ≡ a.top
  pub branch : (f q : ℕ) (qs rs : List ℕ) → f < n → Forks p f qs → Pick q qs rs
      → value_slot a sides (home p q) ≡ a.meet (value_slot a sides (home p (region_of (node_at p f)))) (met a (forced_slot a forces) rs)
  pub long : length sides ≡ length p.nodes

-- the nodes of the regions below i have their values, and the slots of the others still hold what they held
pub record ValuedTo {V G : Type 0} (a : Algebra V G) (p : Drawn) (start : V) (nodes : List (Effect G V)) (sides values : List V) (i : ℕ) : Type 0 where
  pub outermost : (k : ℕ) → 0 < i → Lies p 0 k → value_slot a values k ≡ a.meet (act a (slot a nodes k) start) (value_slot a sides (home p 0))
  pub branch : (f q k : ℕ) (qs rs : List ℕ) → q < i → Forks p f qs → Pick q qs rs → Lies p q k
      → value_slot a values k ≡ a.meet (act a (slot a nodes k) (value_slot a values f)) (value_slot a sides (home p q))
  pub rest : (k : ℕ) → k < length p.nodes → i ≤ region_of (node_at p k) → value_slot a values k ≡ value_slot a sides k
  pub long : length values ≡ length p.nodes
