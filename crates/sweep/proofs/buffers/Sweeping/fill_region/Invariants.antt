use Rattle.plan.specs.Stored.{seen}
use Rattle.kinds.specs.Effects.{act}
use Rattle.sweep.specs.Kept.{WritesValues}
use Rattle.sweep.specs.Slots.{slot, PutTo}
use Rattle.sweep.proofs.buffers.Sweeping.fill_region.Given as goal

abbrev pub invariant-loop-n : goal.invariant-loop-n
invariant-loop-n g l =
    let a = g.K.Kind.algebra l.fn.self.kind.now in record {
      writes : WritesValues l.fn.self l.self;
      put : PutTo a.top (seen l.fn.self.plan.now) l.region (λ n. a.meet (act a (slot a l.fn.self.effects.now n) l.base) l.side) l.fn.self.values.now l.self.values.now l.n;
    }
