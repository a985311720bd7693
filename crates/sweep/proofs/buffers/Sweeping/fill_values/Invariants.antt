use Rattle.plan.specs.Stored.{seen}
use Rattle.sweep.specs.Kept.{WritesValues}
use Rattle.sweep.specs.Valuing.{ValuedTo}
use Rattle.sweep.proofs.buffers.Sweeping.fill_values.Given as goal

abbrev pub invariant-loop-region : goal.invariant-loop-region
invariant-loop-region g l =
    let a = g.K.Kind.algebra l.fn.self.kind.now in
    let p = seen l.fn.self.plan.now in record {
      writes : WritesValues l.fn.self l.self;
      valued : ValuedTo a p l.start l.fn.self.effects.now l.fn.self.values.now l.self.values.now l.region;
    }
