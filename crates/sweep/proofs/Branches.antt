-- Nodes read from a stored plan, and the branches of its forks.
use Rattle.std.proofs.Common.{◌≡◌, ℕ, ◌+◌, ◌<◌, ◌≤◌, List, length, get_or, sym, ap, ◌∙◌}
use Rattle.plan.specs.declared.node.Node.{Node}
use Rattle.plan.specs.declared.node.Node.TheVariants as node
use Rattle.plan.specs.declared.statement.Statement.TheVariants.{Idle}
use Rattle.plan.specs.declared.stored.Plan.{Plan}
use Rattle.plan.specs.Drawn.{node_at, Sound}
use Rattle.plan.specs.Stored.{seen}
use Rattle.plan.proofs.Opened.{opened}
use Rattle.plan.proofs.Forks.{branches_within}

pub sound : (plan : Plan) → Sound (seen plan)
sound plan = opened (seen plan) plan.sound

-- a node read from the slice of nodes is that of the plan
pub found : (plan : Plan) (ns : List Node) (n : ℕ) (x : Node) → ns ≡ (seen plan).nodes → get_or ns n (node.Step 0 Idle) ≡ x → node_at (seen plan) n ≡ x
found plan ns n x is e = ap (λ (ms : List Node). get_or ms n (node.Step 0 Idle)) (sym is) ∙ e

-- the branches of a fork are regions of the plan
pub within : (plan : Plan) (n r b k : ℕ) → n < length (seen plan).nodes → node_at (seen plan) n ≡ node.Fork r b k → b + k ≤ length (seen plan).ends
within plan n r b k h is = (branches_within (seen plan) (sound plan) n r b k h is).1
