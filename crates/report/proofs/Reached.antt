-- Some run reaches every node of a whole plan.
use Rattle.std.proofs.Common.{ℕ, ◌<◌, List, length, refl}
use Rattle.plan.specs.declared.node.Direction.{Direction}
use Rattle.plan.specs.Drawn.{Drawn, node_at, region_of, Sound, Lies}
use Rattle.plan.specs.Paths.{Whole}
use Rattle.runs.specs.Runs.{Run}
use Rattle.runs.proofs.Plans.{fit}
use Rattle.runs.proofs.Inside.{Inside, nested, nested_inside}
use Rattle.runs.proofs.Reaching.{inside_approach}

pub run_some : (p : Drawn) → Sound p → Whole p → (d : Direction) (n : ℕ) → n < length p.nodes → (w : List ℕ) × Run p d n w
run_some p sound whole d n h =
    let f = fit p sound whole d in
    let lies : Lies p (region_of (node_at p n)) n = (h, refl) in
    inside_approach f (nested_inside (nested f (region_of (node_at p n)) (f.within lies)) (Inside.here lies))
