use Rattle.std.proofs.Common.{arith, rules}
use Rattle.plan.specs.Stored.{seen}
use Rattle.sweep.proofs.Branches.{sound}
use Rattle.sweep.proofs.Kept.{ends_same}
use Rattle.sweep.proofs.Gathering.{forced_more}
use Rattle.sweep.proofs.buffers.Sweeping.gather.Goals as goal

pub loop-region-preserved : goal.loop-region-preserved
loop-region-preserved g c =
    let plan = c.args.self.now.plan.now in
    let l = c.loop-region in
    let same = l.invariant.same in
    let is = rw (same.plan, same.kind) at c.region_forces-forced.ensures in
    record {
      same = search rules;
      forced = forced_more (g.K.Kind.algebra c.args.self.now.kind.now) (seen plan) (sound plan) l.self.regions.now l.region _ _
          (omega (arith, c.loop-region-test.true)) (omega (arith, c.loop-region-test.true, l.auto.region, l.self.region_slots, ends_same same)) is l.invariant.forced;
    }
