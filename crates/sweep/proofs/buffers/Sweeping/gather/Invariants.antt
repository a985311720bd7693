use Rattle.plan.specs.Stored.{seen}
use Rattle.sweep.specs.Kept.{Same}
use Rattle.sweep.specs.Valuing.{ForcedFrom}
use Rattle.sweep.proofs.buffers.Sweeping.gather.Given as goal

abbrev pub invariant-loop-region : goal.invariant-loop-region
invariant-loop-region g l = record {
  same : Same l.initial.self l.self;
  forced : ForcedFrom (g.K.Kind.algebra l.initial.self.kind.now) (seen l.initial.self.plan.now) l.region l.self.regions.now;
}
