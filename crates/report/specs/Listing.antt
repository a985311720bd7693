-- What the lists of steps write: a byte for each node, 1 where it is listed and else 0.
--   listed_in        whether a row of bytes lists a node
--   TestedBy         a test answers as a given one does of each node and its value, and `marks` are the bytes of that one
--   Filled           the first slots hold what is given, and the rest what they held
--   ListsRedundant   the bytes list the redundant steps
--   Refused          why they are not listed
use Rattle.std.specs.Prelude.{◌≡◌, ℕ, ◌<◌, ◌≤◌, Bool, false, cond, ◌⊎◌, List, length, Some, None, Option, ◌==◌, slice_index, slice_index_or}
use Rattle.refusals.specs.declared.refusal.Refusal.{Refusal}
use Rattle.refusals.specs.declared.refusal.Refusal.TheVariants.{Short}
use Rattle.plan.specs.declared.node.Node.{Node}
use Rattle.plan.specs.declared.node.Node.TheVariants.{Step}
use Rattle.plan.specs.declared.statement.Statement.TheVariants.{Idle}
use Rattle.plan.specs.Drawn.{Drawn}
use Rattle.plan.specs.Paths.{Whole, Fault}
use Rattle.bitset.specs.declared.bits.Bits.{Bits}
use Rattle.expressions.specs.declared.expression.Expression.{Expression}
use Rattle.bitset.specs.Bits.{every, is_set}
use Rattle.expressions.specs.Expressions.{place, Fitting, Crowded}
use Rattle.sweep.specs.Swept.{KeptFrom}
use Rattle.report.specs.Strikes.{Redundant, Strikeable}

abbrev pub listed_in : List ℕ → ℕ → Bool
listed_in bytes n = slice_index bytes n == 1

abbrev pub flag : Bool → ℕ
flag b = cond b 1 0

pub record Filled {X : Type 0} (d : X) (fill : ℕ → X) (count : ℕ) (before after : List X) : Type 0 where
  pub front : (n : ℕ) → n < count → slice_index_or after n d ≡ fill n
  pub kept : KeptFrom count before after

-- ---- how it is found

-- a test that answers as f does of each node and its value
abbrev pub TestedBy : (Node → Bits → Bool → Type 0) → List Node → List Bits → (Node → Bits → Bool) → Type 0
TestedBy answers nodes values f =
    (n : ℕ) → n < length nodes → (b : Bool)
    → answers (slice_index_or nodes n (Step 0 Idle)) (slice_index_or values n every) b
    → b ≡ f (slice_index_or nodes n (Step 0 Idle)) (slice_index_or values n every)

-- the byte of each node that it is given: 1 where f holds of the node and its value
abbrev pub marks : (Node → Bits → Bool) → List Node → List Bits → ℕ → ℕ
marks f nodes values n = flag (f (slice_index_or nodes n (Step 0 Idle)) (slice_index_or values n every))

-- the bit at a place
abbrev pub bit_at : Bits → Option ℕ → Bool
bit_at v None = false
bit_at v (Some i) = is_set i v

-- the bit of an expression of a list
abbrev pub bit_of : List Expression → Bits → Option Expression → Bool
bit_of es v None = false
bit_of es v (Some e) = bit_at v (place e es)

-- ---- what it means

-- the nodes up to each node compute at most 64 expressions
abbrev pub Uncrowded : Drawn → Type 0
Uncrowded p = (n : ℕ) → n < length p.nodes → Fitting p.nodes n

pub record ListsRedundant (p : Drawn) (before after : List ℕ) : Type 0 where
  -- nothing refuses it
  pub whole : Whole p
  pub uncrowded : Uncrowded p
  pub room : length p.nodes ≤ length before
  pub flags : (n : ℕ) → n < length p.nodes → (slice_index after n ≡ 0) ⊎ (slice_index after n ≡ 1)
  pub kept : KeptFrom (length p.nodes) before after
  pub redundant : Redundant p (listed_in after)
  pub strikeable : Strikeable p (listed_in after)

-- the plan is not whole, or it computes too many expressions, or there is less room than needed
abbrev pub Refused : Drawn → ℕ → ℕ → Refusal → Type 0
Refused p needed room e =
    Fault p e ⊎ ((Whole p × Crowded p.nodes e) ⊎ ((e ≡ Short) × Whole p × Uncrowded p × (room < needed)))
