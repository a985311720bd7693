use Rattle.plan.specs.Stored.{seen}
use Rattle.runs.specs.Actions.{steps_of}
use Rattle.runs.proofs.Meets.{nodes_exact, regions_exact, values_exact}
use Rattle.sweep.specs.Slots.{slot, forced_slot, value_slot}
use Rattle.sweep.specs.Valuing.{home}
use Rattle.sweep.proofs.Branches.{sound}
use Rattle.sweep.proofs.Kept.{same_then}
use Rattle.sweep.proofs.Values.{all_valued}
use Rattle.sweep.proofs.buffers.Sweeping.fill.Goals as goal

pub returns : goal.returns
returns g c =
    let self = c.args.self.now in
    let a = g.K.Kind.algebra self.kind.now in
    let laws = g.met.K.Kind.lawful self.kind.now in
    let p = seen self.plan.now in
    let s = sound self.plan.now in
    let d = self.direction in
    let steps = steps_of a p in
    let gathered = c.gather.ensures.same in
    let sided = same_then gathered c.fill_sides.ensures.writes.same in
    let done = same_then sided c.solve.ensures.same in
    let filled = c.fill_values.ensures.writes in
    let effects = c.solve.new.self.effects.now in
    let regions = c.solve.new.self.regions.now in
    let sides = c.fill_sides.new.self.values.now in
    let values = c.fill_values.new.self.values.now in
    let forces = c.gather.new.self.regions.now in
    let solved = rw (sided.plan, sided.kind, sided.direction) at c.solve.ensures.solved in
    let valued = all_valued a p s c.args.start effects sides forces values c.gather.ensures.forced
    (rw (gathered.plan, gathered.kind) at c.fill_sides.ensures.sides)
    (rw (done.plan, done.kind, c.solve.ensures.values) at c.fill_values.ensures.valued) in
    record {
      same = same_then done filled.same;
      values = values_exact laws p d s c.requires steps (slot a effects) (slot a regions) solved c.args.start (forced_slot a forces) (λ q. value_slot a sides (home p q)) (value_slot a values) valued;
      nodes = rw filled.effects (nodes_exact laws p d s c.requires steps (slot a effects) (slot a regions) solved);
      regions = rw filled.regions (regions_exact laws p d s c.requires steps (slot a effects) (slot a regions) solved);
    }
