-- What a sweep promises.
use Rattle.std.specs.Prelude.{◌≡◌, ℕ, ◌<◌, ◌≤◌, ◌⊎◌, List, length, slice_index_or}
use Rattle.plan.specs.declared.node.Direction.{Direction}
use Rattle.plan.specs.Drawn.{Drawn, node_at, region_of}
use Rattle.plan.specs.Paths.{Whole, Fault}
use Rattle.refusals.specs.declared.refusal.Refusal.{Refusal}
use Rattle.refusals.specs.declared.refusal.Refusal.TheVariants.{Short}
use Rattle.kinds.specs.declared.effect.Effect.{Effect}
use Rattle.kinds.specs.Kinds.{Algebra}
use Rattle.kinds.specs.Effects.{act, IsMeet}
use Rattle.runs.specs.Words.{Full}
use Rattle.runs.specs.Runs.{Approach, Run}
use Rattle.runs.specs.Actions.{run, steps_of}
use Rattle.sweep.specs.Slots.{slot, value_slot}

module _ {V G : Type 0} (a : Algebra V G) (p : Drawn) (d : Direction) where
  -- a value for every node: the meet, over all interleaved runs that reach it, of what each leaves of the start value
  abbrev pub ValuesMeet : V → List V → Type 0
  ValuesMeet start values = (n : ℕ) → n < length p.nodes → IsMeet a (Run p d n) (λ w. run a (steps_of a p) w start) (value_slot a values n)

  -- an effect for every node: it acts as the meet over the node's approaches within its own region
  abbrev pub NodesMeet : List (Effect G V) → Type 0
  NodesMeet effects = (n : ℕ) → n < length p.nodes → (x : V) → IsMeet a (Approach p d (region_of (node_at p n)) n) (λ w. run a (steps_of a p) w x) (act a (slot a effects n) x)

  -- an effect for every region: it acts as the meet over the region's full words
  abbrev pub RegionsMeet : List (Effect G V) → Type 0
  RegionsMeet regions = (r : ℕ) → r < length p.ends → (x : V) → IsMeet a (Full p d r) (λ w. run a (steps_of a p) w x) (act a (slot a regions r) x)

-- slots from n on are as before
pub record KeptFrom {X : Type 0} (n : ℕ) (before after : List X) : Type 0 where
  pub rest : (k : ℕ) (x : X) → n ≤ k → slice_index_or after k x ≡ slice_index_or before k x
  pub long : length after ≡ length before

-- the three buffers after a sweep that is not refused
pub record Swept {V G : Type 0} (a : Algebra V G) (p : Drawn) (d : Direction) (start : V) (values values' : List V) (effects effects' regions regions' : List (Effect G V)) : Type 0 where
  pub whole : Whole p
  pub values_meet : ValuesMeet a p d start values'
  pub nodes_meet : NodesMeet a p d effects'
  pub regions_meet : RegionsMeet a p d regions'
  pub values_kept : KeptFrom (length p.nodes) values values'
  pub nodes_kept : KeptFrom (length p.nodes) effects effects'
  pub regions_kept : KeptFrom (length p.ends) regions regions'

-- a sweep is refused where the plan is not whole, or else where a buffer is too short
abbrev pub Refused : Drawn → ℕ → ℕ → ℕ → Refusal → Type 0
Refused p values effects regions e =
    Fault p e ⊎ ((e ≡ Short) × Whole p × ((values < length p.nodes) ⊎ ((effects < length p.nodes) ⊎ (regions < length p.ends))))

-- there is a slot for every node and every region
abbrev pub HasRoom : Drawn → ℕ → ℕ → ℕ → Type 0
HasRoom p values effects regions = (length p.nodes ≤ values) × (length p.nodes ≤ effects) × (length p.ends ≤ regions)
