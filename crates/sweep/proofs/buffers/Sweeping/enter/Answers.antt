use Rattle.std.proofs.Common.{ap, ◌∙◌, arith, rules}
use Rattle.plan.specs.Stored.{seen}
use Rattle.sweep.specs.Valuing.{met_but}
use Rattle.sweep.proofs.Branches.{sound}
use Rattle.sweep.proofs.Entering.{entered_more}
use Rattle.sweep.proofs.Homes.{ended}
use Rattle.sweep.proofs.Kept.{nodes_same}
use Rattle.sweep.proofs.buffers.Sweeping.enter.Goals as goal

pub loop-i-preserved : goal.loop-i-preserved
loop-i-preserved g c =
    let self = c.args.self.now in
    let p = seen self.plan.now in
    let l = c.loop-i in
    let a = g.K.Kind.algebra l.self.kind.now in
    let w = l.invariant.writes in
    let met = c.side_value.ensures ∙ ap (λ es. a.meet c.args.outer (met_but a es l.i)) c.branches.ensures in
    record {
      writes = search rules;
      entered = entered_more (g.K.Kind.algebra self.kind.now) p (sound self.plan.now) (ended p self.whole) self.regions.now c.args.first c.args.count c.args.outer self.values.now l.self.values.now l.i _ _
          (rw w.same.plan at c.home-node.ensures.is) (omega (arith, c.loop-i-test.true, c.requires)) (l.self.value_slots ∙ nodes_same w.same)
          (rw (w.same.kind, w.regions) at met) l.invariant.entered;
    }
