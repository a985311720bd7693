use Rattle.plan.specs.Stored.{seen}
use Rattle.kinds.specs.Effects.{passing}
use Rattle.runs.specs.Scheme.{initial}
use Rattle.sweep.specs.Kept.{WritesEffects}
use Rattle.sweep.specs.Slots.{PutTo}
use Rattle.sweep.proofs.buffers.Sweeping.start.Given as goal

abbrev pub invariant-loop-n : goal.invariant-loop-n
invariant-loop-n g l =
    let a = g.K.Kind.algebra l.fn.self.kind.now in record {
      writes : WritesEffects l.fn.self l.self;
      put : PutTo (passing a) (seen l.fn.self.plan.now) l.region (initial a l.first) l.fn.self.effects.now l.self.effects.now l.n;
    }
