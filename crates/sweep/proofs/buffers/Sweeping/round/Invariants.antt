use Rattle.plan.specs.Stored.{seen}
use Rattle.sweep.specs.Kept.{WritesEffects}
use Rattle.sweep.proofs.Turns.{Turn}
use Rattle.sweep.proofs.buffers.Sweeping.round.Given as goal

abbrev pub invariant-loop-arc : goal.invariant-loop-arc
invariant-loop-arc g l =
    let a = g.K.Kind.algebra l.fn.self.kind.now in
    let p = seen l.fn.self.plan.now in record {
      writes : WritesEffects l.fn.self l.self;
      turn : Turn a p l.fn.self.regions.now l.fn.self.direction l.region l.changed l.fn.self.effects.now l.self.effects.now l.arc-index;
    }
