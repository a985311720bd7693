use Rattle.std.proofs.Common.{◌≡◌, drop}
use Rattle.plan.specs.Stored.{seen}
use Rattle.runs.specs.Actions.{steps_of}
use Rattle.runs.specs.Scheme.{all_force}
use Rattle.sweep.specs.Slots.{forced_slot}
use Rattle.sweep.proofs.buffers.Sweeping.region_forces.Given as goal

-- what is met so far, and what the nodes from n on force, make up what all nodes force
abbrev pub invariant-loop-n : goal.invariant-loop-n
invariant-loop-n g l =
    let a = g.K.Kind.algebra l.self.kind.now in
    let p = seen l.self.plan.now in
    let f = forced_slot a l.self.regions.now in
    a.meet l.all (all_force a (steps_of a p) f l.region l.n (drop l.n p.nodes)) ≡ all_force a (steps_of a p) f l.region 0 p.nodes
