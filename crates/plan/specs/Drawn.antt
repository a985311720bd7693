-- A plan as it is drawn, apart from how it is stored.
use Rattle.std.specs.Prelude.{◌≡◌, ℕ, suc, ◌+◌, ◌<◌, ◌≤◌, Bool, true, List, [], ◌∷◌, length, take, Some, None, Option, slice_index_or}
use Rattle.plan.specs.declared.statement.Statement.TheVariants.{Idle}
use Rattle.plan.specs.declared.node.Node.{Node}
use Rattle.plan.specs.declared.node.Node.TheVariants.{Step, Fork}
use Rattle.plan.specs.declared.node.Arc.{Arc}
use Rattle.plan.specs.declared.node.Ends.{Ends}
use Rattle.plan.specs.Statements.{in_range}

-- Nodes, arcs and, for each region, its ends if they are named. Nodes and regions are numbered from 0 by their place.
pub record Drawn : Type 0 where
  pub nodes : List Node
  pub arcs : List Arc
  pub ends : List (Option Ends)

-- a new plan has region 0 and nothing else
abbrev pub blank : Drawn
blank = record { nodes = []; arcs = []; ends = None ∷ [] }

abbrev pub node_at : Drawn → ℕ → Node
node_at p n = slice_index_or p.nodes n (Step 0 Idle)

abbrev pub arc_at : Drawn → ℕ → Arc
arc_at p k = slice_index_or p.arcs k (record { from = 0; to = 0 })

abbrev pub ends_at : Drawn → ℕ → Option Ends
ends_at p r = slice_index_or p.ends r None

-- the region in which a node lies
abbrev pub region_of : Node → ℕ
region_of (Step r s) = r
region_of (Fork r b k) = r

-- node n is there and lies in region r
abbrev pub Lies : Drawn → ℕ → ℕ → Type 0
Lies p r n = (n < length p.nodes) × (region_of (node_at p n) ≡ r)

-- an arc joins two nodes of one region
abbrev pub Joins : Drawn → Arc → Type 0
Joins p a = (a.from < length p.nodes) × (a.to < length p.nodes) × (region_of (node_at p a.from) ≡ region_of (node_at p a.to))

-- a step names variables and probes that there are
abbrev pub node_in_range : Node → Bool
node_in_range (Step r s) = in_range s
node_in_range (Fork r b k) = true

-- how many branches a node has
abbrev pub width : Node → ℕ
width (Step r s) = 0
width (Fork r b k) = k

abbrev pub branches : List Node → ℕ
branches [] = 0
branches (n ∷ ns) = width n + branches ns

-- how many regions there are before node n is made: region 0, and the branches of the forks so far
abbrev pub regions_before : Drawn → ℕ → ℕ
regions_before p n = suc (branches (take n p.nodes))

-- within the limits of a plan
abbrev pub Small : Drawn → Type 0
Small p = (length p.nodes ≤ 256) × (length p.arcs ≤ 1024) × (length p.ends ≤ 64)

-- What holds of every plan that calls draw.
pub record Sound (p : Drawn) : Type 0 where
  -- the regions are region 0 and the branches of all forks
  pub counted : length p.ends ≡ suc (branches p.nodes)
  -- a node lies in a region that was there before the node
  pub placed : (n : ℕ) → n < length p.nodes → region_of (node_at p n) < regions_before p n
  -- the branches of a fork are the next regions
  pub forked : (n r b k : ℕ) → n < length p.nodes → node_at p n ≡ Fork r b k → b ≡ regions_before p n
  -- every arc joins two nodes of one region
  pub joined : (k : ℕ) → k < length p.arcs → Joins p (arc_at p k)
  -- the ends of a region lie in it
  pub bounded : (r : ℕ) (e : Ends) → ends_at p r ≡ Some e → Lies p r e.first × Lies p r e.last

-- every step of the plan names variables and probes that there are
abbrev pub Ranged : Drawn → Type 0
Ranged p = (n : ℕ) → n < length p.nodes → node_in_range (node_at p n) ≡ true
