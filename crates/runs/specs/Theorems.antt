-- The theorems, for one kind given by its algebra.
use Rattle.std.specs.Prelude.{◌≡◌, ℕ, ◌<◌, List, [], ◌∷◌, ◌++◌, length}
use Rattle.plan.specs.declared.call.Call.{Call}
use Rattle.plan.specs.declared.node.Direction.{Direction}
use Rattle.plan.specs.Drawn.{Drawn, node_at, region_of, Ranged, Sound}
use Rattle.plan.specs.Calls.{drawn}
use Rattle.plan.specs.Paths.{Whole}
use Rattle.kinds.specs.declared.effect.Effect.{Effect}
use Rattle.kinds.specs.Kinds.{Algebra}
use Rattle.kinds.specs.Effects.{act, IsMeet}
use Rattle.runs.specs.Words.{Full, Beginning}
use Rattle.runs.specs.Runs.{Approach, Run}
use Rattle.runs.specs.Actions.{run, steps_of}
use Rattle.runs.specs.Scheme.{Solved, Valued}
use Rattle.runs.specs.Sample.{sample}

-- the effect of a node acts as the meet over its approaches within its own region
abbrev pub NodesExact : {V G : Type 0} → Algebra V G → Type 0
NodesExact {V} {G} a = (p : Drawn) (d : Direction) → Sound p → Whole p → (steps nodes regions : ℕ → Effect G V) → Solved a p d steps nodes regions
    → (n : ℕ) → n < length p.nodes → (x : V) → IsMeet a (Approach p d (region_of (node_at p n)) n) (λ w. run a steps w x) (act a (nodes n) x)

-- the effect of a region acts as the meet over its full words
abbrev pub RegionsExact : {V G : Type 0} → Algebra V G → Type 0
RegionsExact {V} {G} a = (p : Drawn) (d : Direction) → Sound p → Whole p → (steps nodes regions : ℕ → Effect G V) → Solved a p d steps nodes regions
    → (r : ℕ) → r < length p.ends → (x : V) → IsMeet a (Full p d r) (λ w. run a steps w x) (act a (regions r) x)

-- the value at a node is the meet, over all interleaved runs that reach it, of what each leaves of the start value
abbrev pub ValuesExact : {V G : Type 0} → Algebra V G → Type 0
ValuesExact {V} {G} a = (p : Drawn) (d : Direction) → Sound p → Whole p → (steps nodes regions : ℕ → Effect G V) → Solved a p d steps nodes regions
    → (start : V) (forces side value : ℕ → V) → Valued a p steps nodes start forces side value
    → (n : ℕ) → n < length p.nodes → IsMeet a (Run p d n) (λ w. run a steps w start) (value n)

-- two solutions act alike, so that effects which are stable but too low are no solution
abbrev pub SolutionsAgree : {V G : Type 0} → Algebra V G → Type 0
SolutionsAgree {V} {G} a = (p : Drawn) (d : Direction) → Sound p → Whole p → (steps nodes regions nodes' regions' : ℕ → Effect G V)
    → Solved a p d steps nodes regions → Solved a p d steps nodes' regions'
    → ((n : ℕ) → n < length p.nodes → (x : V) → act a (nodes n) x ≡ act a (nodes' n) x)
    × ((r : ℕ) → r < length p.ends → (x : V) → act a (regions r) x ≡ act a (regions' r) x)

-- a plan has effects and values, for the effects of its steps
abbrev pub Solvable : {V G : Type 0} → Algebra V G → Drawn → Direction → V → Type 0
Solvable {V} {G} a p d start = (nodes regions : ℕ → Effect G V) × (forces side value : ℕ → V)
    × Solved a p d (steps_of a p) nodes regions × Valued a p (steps_of a p) nodes start forces side value

-- what the theorems ask for can be had: the sample plan has all of it, in either direction and from any start value
abbrev pub PremisesMet : {V G : Type 0} → Algebra V G → Type 0
PremisesMet {V} a = Sound sample × Whole sample × ((d : Direction) (start : V) → Solvable a sample d start)

-- every row of calls, refused or not, draws a sound plan
abbrev pub RowsSound : Type 0
RowsSound = (row : List Call) → Sound (drawn row)

-- and one whose steps name variables and probes that there are
abbrev pub RowsRanged : Type 0
RowsRanged = (row : List Call) → Ranged (drawn row)

-- an approach is a beginning of a full word, and a beginning that ends in a step is, without it, an approach to the step
abbrev pub Beginnings : Type 0
Beginnings = (p : Drawn) (d : Direction) → Sound p → Whole p → (r n : ℕ) (u : List ℕ)
    → (r < length p.ends → Approach p d r n u → Beginning p d r u) × (Beginning p d r (u ++ (n ∷ [])) → Approach p d r n u)

-- an approach is a beginning of a full word, whatever the number of its region
abbrev pub ApproachesBegin : Type 0
ApproachesBegin = (p : Drawn) (d : Direction) → Sound p → Whole p → (r n : ℕ) (u : List ℕ) → Approach p d r n u → Beginning p d r u
