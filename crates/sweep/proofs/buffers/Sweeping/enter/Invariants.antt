use Rattle.plan.specs.Stored.{seen}
use Rattle.sweep.specs.Kept.{WritesValues}
use Rattle.sweep.specs.Valuing.{EnteredTo}
use Rattle.sweep.proofs.buffers.Sweeping.enter.Given as goal

abbrev pub invariant-loop-i : goal.invariant-loop-i
invariant-loop-i g l =
    let a = g.K.Kind.algebra l.fn.self.kind.now in
    let p = seen l.fn.self.plan.now in record {
      writes : WritesValues l.fn.self l.self;
      entered : EnteredTo a p l.fn.self.regions.now l.first l.count l.outer l.fn.self.values.now l.self.values.now l.i;
    }
