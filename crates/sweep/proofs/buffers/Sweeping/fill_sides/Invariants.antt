use Rattle.plan.specs.Stored.{seen}
use Rattle.sweep.specs.Kept.{WritesValues}
use Rattle.sweep.specs.Valuing.{SidesTo}
use Rattle.sweep.proofs.buffers.Sweeping.fill_sides.Given as goal

abbrev pub invariant-loop-node : goal.invariant-loop-node
invariant-loop-node g l =
    let a = g.K.Kind.algebra l.fn.self.kind.now in
    let p = seen l.fn.self.plan.now in record {
      writes : WritesValues l.fn.self l.self;
      sides : SidesTo a p l.fn.self.regions.now l.self.values.now l.node-index;
    }
