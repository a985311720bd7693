-- A small plan: a step leads to a fork of two branches; the one branch is a step that may be repeated, the other a single step.
use Rattle.std.specs.Prelude.{[], ◌∷◌, Some}
use Rattle.plan.specs.declared.statement.Statement.TheVariants.{Wait, Probe, Send}
use Rattle.plan.specs.declared.node.Node.TheVariants.{Step, Fork}
use Rattle.plan.specs.Drawn.{Drawn}

abbrev pub sample : Drawn
sample = record {
  nodes = Step 0 (Probe 0 1) ∷ Fork 0 1 2 ∷ Step 1 (Send 0) ∷ Step 2 Wait ∷ [];
  arcs = record { from = 0; to = 1 } ∷ record { from = 2; to = 2 } ∷ [];
  ends = Some (record { first = 0; last = 1 }) ∷ Some (record { first = 2; last = 2 }) ∷ Some (record { first = 3; last = 3 }) ∷ [];
}
