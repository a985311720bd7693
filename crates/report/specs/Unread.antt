-- Which writes nobody reads. What runs after a step is read from the plan's end back to the step.
--   Unread     what runs after a step does not read v: v is assigned before any use, or it is neither used nor kept
--   DeadStep   the step assigns a variable that is unread on every run
--   DeadSteps  listed are the dead steps
use Rattle.std.specs.Prelude.{◌≡◌, ℕ, ◌<◌, ◌≤◌, Bool, true, false, ◌⊎◌, ◌↔◌, List, [], ◌∷◌, length, slice_index}
use Rattle.refusals.specs.declared.refusal.Refusal.{Refusal}
use Rattle.refusals.specs.declared.refusal.Refusal.TheVariants.{Short}
use Rattle.plan.specs.declared.node.Node.{Node}
use Rattle.plan.specs.declared.node.Node.TheVariants.{Step, Fork}
use Rattle.plan.specs.declared.node.Direction.TheVariants.{Backward}
use Rattle.plan.specs.Drawn.{Drawn, node_at}
use Rattle.plan.specs.Paths.{Whole, Fault}
use Rattle.plan.specs.Statements.{assigns, uses}
use Rattle.bitset.specs.declared.bits.Bits.{Bits}
use Rattle.bitset.specs.Bits.{bit, is_set}
use Rattle.expressions.specs.Variables.{among}
use Rattle.runs.specs.Runs.{Run}
use Rattle.sweep.specs.Swept.{KeptFrom}
use Rattle.report.specs.Strikes.{Every, Since}
use Rattle.report.specs.Listing.{listed_in}

-- the variables that a node assigns and uses; a fork by itself none
abbrev pub assigned_by : Node → List ℕ
assigned_by (Step r s) = assigns s
assigned_by (Fork r b k) = []

abbrev pub used_by : Node → List ℕ
used_by (Step r s) = uses s
used_by (Fork r b k) = []

-- the bit of the variable that a node assigns, if any
abbrev pub bit_among : Bits → List ℕ → Bool
bit_among x [] = false
bit_among x (v ∷ vs) = is_set v x

module _ (p : Drawn) (v : ℕ) where
  abbrev pub Assigns : ℕ → Type 0
  Assigns n = among v (assigned_by (node_at p n)) ≡ true

  abbrev pub Unused : ℕ → Type 0
  Unused n = among v (used_by (node_at p n)) ≡ false

  abbrev pub Unread : ℕ → List ℕ → Type 0
  Unread kept w = ((bit v kept ≡ false) × Every Unused w) ⊎ Since Assigns Unused w

abbrev pub DeadStep : Drawn → ℕ → ℕ → Type 0
DeadStep p kept n = (v : ℕ) × Assigns p v n × ((w : List ℕ) → Run p Backward n w → Unread p v kept w)

abbrev pub DeadSteps : Drawn → ℕ → (ℕ → Bool) → Type 0
DeadSteps p kept listed = (n : ℕ) → n < length p.nodes → (listed n ≡ true) ↔ DeadStep p kept n

pub record ListsDead (p : Drawn) (kept : ℕ) (before after : List ℕ) : Type 0 where
  -- nothing refuses it
  pub whole : Whole p
  pub room : length p.nodes ≤ length before
  pub flags : (n : ℕ) → n < length p.nodes → (slice_index after n ≡ 0) ⊎ (slice_index after n ≡ 1)
  pub kept_rest : KeptFrom (length p.nodes) before after
  pub dead : DeadSteps p kept (listed_in after)

abbrev pub DeadRefused : Drawn → ℕ → Refusal → Type 0
DeadRefused p room e = Fault p e ⊎ ((e ≡ Short) × Whole p × (room < length p.nodes))
