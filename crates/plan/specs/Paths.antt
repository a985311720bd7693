-- Paths of a plan, and when it is whole.
use Rattle.std.specs.Prelude.{◌≡◌, ℕ, ◌<◌, length, Some, None, ◌≢◌}
use Rattle.refusals.specs.declared.refusal.Refusal.{Refusal}
use Rattle.refusals.specs.declared.refusal.Refusal.TheVariants.{Missing, Operand, Branches, Outside, Repeated, NotStep, Full, NoEnds, Unreached, Stranded, TooManyExpressions, Short, NotTenths}
use Rattle.plan.specs.declared.node.Arc.{Arc}
use Rattle.plan.specs.declared.node.Ends.{Ends}
use Rattle.plan.specs.declared.node.Direction.{Direction}
use Rattle.plan.specs.declared.node.Direction.TheVariants.{Forward, Backward}
use Rattle.plan.specs.Drawn.{Drawn, node_at, arc_at, ends_at, region_of}

-- Backward, every arc is turned round, and first and last are exchanged.

abbrev pub turned : Direction → Arc → Arc
turned Forward a = a
turned Backward a = record { from = a.to; to = a.from }

abbrev pub first_in : Direction → Ends → ℕ
first_in Forward e = e.first
first_in Backward e = e.last

abbrev pub last_in : Direction → Ends → ℕ
last_in Forward e = e.last
last_in Backward e = e.first

-- some arc leads from m to n
abbrev pub Leads : Drawn → Direction → ℕ → ℕ → Type 0
Leads p d m n = (k : ℕ) × (k < length p.arcs) × (turned d (arc_at p k) ≡ record { from = m; to = n })

-- a path follows arcs; one of no arcs stays where it is
pub data Path (p : Drawn) (d : Direction) : ℕ → ℕ → Type 0 where
  stay : {n : ℕ} → Path p d n n
  go : {m k n : ℕ} → Path p d m k → Leads p d k n → Path p d m n

-- a path leads to n from the node with which its region begins
abbrev pub Reached : Drawn → Direction → ℕ → Type 0
Reached p d n = (e : Ends) × (ends_at p (region_of (node_at p n)) ≡ Some e) × Path p d (first_in d e) n

-- a path leads from n to the last node of its region
abbrev pub Leaves : Drawn → ℕ → Type 0
Leaves p n = (e : Ends) × (ends_at p (region_of (node_at p n)) ≡ Some e) × Path p Forward n e.last

-- every region has ends
abbrev pub Ended : Drawn → Type 0
Ended p = (r : ℕ) → r < length p.ends → ends_at p r ≢ None

abbrev pub EachReached : Drawn → Type 0
EachReached p = (n : ℕ) → n < length p.nodes → Reached p Forward n

abbrev pub EachLeaves : Drawn → Type 0
EachLeaves p = (n : ℕ) → n < length p.nodes → Leaves p n

-- every region has ends, and every node is reached from the first node of its region and leads to the last
pub record Whole (p : Drawn) : Type 0 where
  pub ended : Ended p
  pub reached : EachReached p
  pub leaves : EachLeaves p

-- n is the lowest number below a count that lacks Q
pub record Lowest (count : ℕ) (Q : ℕ → Type 0) (n : ℕ) : Type 0 where
  pub within : n < count
  pub lacks : Q n → ⊥
  pub least : (k : ℕ) → k < n → Q k

-- why a plan is not whole: the first of three refusals that applies, at its lowest place
abbrev pub Fault : Drawn → Refusal → Type 0
Fault p (NoEnds r) = Lowest (length p.ends) (λ q. ends_at p q ≢ None) r
Fault p (Unreached n) = Ended p × Lowest (length p.nodes) (Reached p Forward) n
Fault p (Stranded n) = Ended p × EachReached p × Lowest (length p.nodes) (Leaves p) n
Fault p Missing = ⊥
Fault p Operand = ⊥
Fault p Branches = ⊥
Fault p Outside = ⊥
Fault p Repeated = ⊥
Fault p NotStep = ⊥
Fault p Full = ⊥
Fault p (TooManyExpressions n) = ⊥
Fault p Short = ⊥
Fault p NotTenths = ⊥
