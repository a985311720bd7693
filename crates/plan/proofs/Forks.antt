-- Where the branches of a fork are numbered.
use Rattle.std.proofs.Common.{◌≡◌, ℕ, zero, suc, ◌+◌, ◌<◌, ◌≤◌, List, [], ◌∷◌, length, get_or, take, ap, arith}
use Rattle.plan.specs.declared.statement.Statement.TheVariants.{Idle}
use Rattle.plan.specs.declared.node.Node.{Node}
use Rattle.plan.specs.declared.node.Node.TheVariants.{Step, Fork}
use Rattle.plan.specs.Drawn.{Drawn, node_at, region_of, width, branches, Sound}

-- the branches of the nodes before n, and of n, are among all
pub branches_at : (ns : List Node) (d : Node) (n : ℕ) → n < length ns → branches (take n ns) + width (get_or ns n d) ≤ branches ns
branches_at [] d n h = absurd (omega arith)
branches_at (x ∷ ns) d zero h = omega arith
branches_at (x ∷ ns) d (suc n) h = omega (arith, branches_at ns d n (omega arith))

-- the branches of a fork are regions of the plan, numbered after its own
pub branches_within : (p : Drawn) → Sound p → (n r b k : ℕ) → n < length p.nodes → node_at p n ≡ Fork r b k → (r < b) × (b + k ≤ length p.ends)
branches_within p s n r b k h is =
    let first = s.forked n r b k h is in
    let all = branches_at p.nodes (Step 0 Idle) n h in
    (omega (arith, first, s.placed n h, ap region_of is), omega (arith, first, all, ap width is, s.counted))

-- a node lies in a region of the plan
pub region_there : (p : Drawn) → Sound p → (n : ℕ) → n < length p.nodes → region_of (node_at p n) < length p.ends
region_there p s n h = omega (arith, s.placed n h, branches_at p.nodes (Step 0 Idle) n h, s.counted)
