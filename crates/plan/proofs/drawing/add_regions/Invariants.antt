use Rattle.std.proofs.Common.{◌≡◌, ◌+◌, ◌++◌, replicate, None, vec_items, vec_len, vec_capacity}
use Rattle.plan.proofs.drawing.add_regions.Given as goal

abbrev pub invariant-loop-done : goal.invariant-loop-done
invariant-loop-done l =
    (vec_items l.regions ≡ vec_items l.initial.regions ++ replicate l._done None)
    × (vec_len l.regions ≡ vec_len l.initial.regions + l._done)
    × (vec_capacity l.regions ≡ vec_capacity l.initial.regions)
