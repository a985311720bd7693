use Rattle.std.proofs.Common.{◌+◌, ◌<◌, List, length, get_or, sym, ap, ◌∙◌, subst, arith}
use Rattle.std.proofs.lemmas.List.{get_or_default}
use Rattle.plan.specs.declared.node.Node.{Node}
use Rattle.plan.specs.declared.node.Node.TheVariants as node
use Rattle.plan.specs.declared.statement.Statement.TheVariants.{Idle}
use Rattle.plan.specs.Drawn.{region_of}
use Rattle.plan.specs.Stored.{seen}
use Rattle.plan.proofs.Forks.{region_there}
use Rattle.sweep.specs.Kept.{WritesValues}
use Rattle.sweep.specs.Slots.{value_slot}
use Rattle.sweep.specs.Valuing.{home, SidesTo}
use Rattle.sweep.proofs.Branches.{sound, found, within}
use Rattle.sweep.proofs.Homes.{ended}
use Rattle.sweep.proofs.Kept.{ends_same, writes_values_then}
use Rattle.sweep.proofs.Sides.{sides_step, sides_fork}
use Rattle.sweep.proofs.buffers.Sweeping.fill_sides.Goals as goal
use Rattle.sweep.proofs.buffers.Sweeping.fill_sides.Goals.{in-Fork, in_default}

pub home-requires : goal.home-requires
home-requires g c =
    let plan = c.args.self.now.plan.now in
    let l = c.loop-node in
    let there : l.node-index < length (seen plan).nodes = omega (arith, c.loop-node-test.true, ap length c.nodes-node-items.ensures) in
    omega (arith, region_there (seen plan) (sound plan) l.node-index there, ap region_of (found plan _ _ _ c.nodes-node-items.ensures c.in-Fork.is), ends_same l.invariant.writes.same)

pub enter-requires : goal.enter-requires
enter-requires g c =
    let plan = c.args.self.now.plan.now in
    let l = c.loop-node in
    let there : l.node-index < length (seen plan).nodes = omega (arith, c.loop-node-test.true, ap length c.nodes-node-items.ensures) in
    omega (arith, within plan l.node-index _ _ _ there (found plan _ _ _ c.nodes-node-items.ensures c.in-Fork.is), ends_same l.invariant.writes.same)

pub loop-node-preserved : goal.loop-node-preserved
loop-node-preserved g c =
    let self = c.args.self.now in
    let a = g.K.Kind.algebra self.kind.now in
    let plan = self.plan.now in
    let p = seen plan in
    let s = sound plan in
    let forces = self.regions.now in
    let l = c.loop-node in
    let n = l.node-index in
    let kept = l.invariant.writes in
    let slice = c.nodes-node-items.ensures in
    let there : n < length p.nodes = omega (arith, c.loop-node-test.true, ap length slice) in
    elim c.match-node.branch [
      | in-Fork w ↦
          let is = found plan _ n _ slice w.in-Fork.is in
          let read = get_or_default l.self.values.now w.home.result _ a.top (omega (arith, w.home.ensures.there, l.self.value_slots)) in
          let at = rw kept.same.plan at w.home.ensures.is in
          record {
            writes = subst (WritesValues self) (sym w.self-is) (writes_values_then kept w.enter.ensures.writes);
            sides = subst (λ (t : _). SidesTo a p forces t.values.now (n + 1)) (sym w.self-is)
                (sides_fork a p s (ended p self.whole) forces l.self.values.now _ n _ _ _ (get_or l.self.values.now w.home.result w.index-self-home.result) there is self.region_slots
                (read ∙ ap (value_slot a l.self.values.now) at ∙ ap (λ (x : Node). value_slot a l.self.values.now (home p (region_of x))) (sym is))
                (rw (kept.same.plan, kept.same.kind, kept.regions) at w.enter.ensures.entered) l.invariant.sides);
          }
      | in_default w ↦ record {
        writes = subst (WritesValues self) (sym w.self-is) kept;
        sides = subst (λ (t : _). SidesTo a p forces t.values.now (n + 1)) (sym w.self-is)
            (sides_step a p s (ended p self.whole) forces l.self.values.now n (λ r b k is. w.in_default.not-Fork r b k (ap (λ (ns : List Node). get_or ns n (node.Step 0 Idle)) slice ∙ is)) l.invariant.sides);
      }
    ]
