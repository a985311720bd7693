use Rattle.plan.specs.Stored.{seen}
use Rattle.sweep.specs.Kept.{WritesEffects}
use Rattle.sweep.specs.Rounds.{rank_sum, Lowering}
use Rattle.sweep.proofs.buffers.Sweeping.settle.Given as goal

abbrev pub invariant-loop : goal.invariant-loop
invariant-loop g l =
    let a = g.K.Kind.algebra l.fn.self.kind.now in
    let p = seen l.fn.self.plan.now in record {
      writes : WritesEffects l.fn.self l.self;
      lowering : Lowering a p l.fn.self.regions.now l.fn.self.direction l.region l.fn.self.effects.now l.self.effects.now;
    }

abbrev pub decreases-loop : goal.decreases-loop
decreases-loop g l = rank_sum (g.K.Kind.algebra l.fn.self.kind.now) l.self.effects.now
