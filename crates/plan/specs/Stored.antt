-- The drawn plan that a stored plan stands for.
use Rattle.std.specs.Prelude.{vec_items}
use Rattle.plan.specs.declared.stored.Plan.{Plan}
use Rattle.plan.specs.Drawn.{Drawn}

abbrev pub seen : Plan → Drawn
seen p = record { nodes = vec_items p.nodes; arcs = vec_items p.arcs; ends = vec_items p.ends }
