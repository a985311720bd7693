use Rattle.plan.specs.Stored.{seen}
use Rattle.std.proofs.Common.{◌≡◌}
use Rattle.sweep.proofs.Branches.{sound}
use Rattle.sweep.specs.Kept.{Same}
use Rattle.sweep.proofs.Assembled.{SolvedFrom}
use Rattle.sweep.proofs.buffers.Sweeping.solve.Given as goal

abbrev pub invariant-loop-region : goal.invariant-loop-region
invariant-loop-region g l =
    let a = g.K.Kind.algebra l.fn.self.kind.now in
    let p = seen l.fn.self.plan.now in record {
      same : Same l.fn.self l.self;
      values : l.self.values.now ≡ l.fn.self.values.now;
      solved : SolvedFrom a p (sound l.fn.self.plan.now) l.fn.self.direction l.region l.self.effects.now l.self.regions.now;
    }
