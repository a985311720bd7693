use Rattle.std.proofs.Common.{◌<◌, length, sym, ap, ◌∙◌, ap₂, arith, rules}
use Rattle.std.proofs.lemmas.List.{get_or_default}
use Rattle.plan.specs.Stored.{seen}
use Rattle.plan.proofs.Marking.{ended_there}
use Rattle.kinds.specs.Effects.{passing, followed}
use Rattle.runs.specs.Scheme.{Lowered.starts}
use Rattle.sweep.specs.Slots.{slot}
use Rattle.sweep.specs.Rounds.{node_does}
use Rattle.sweep.proofs.Agreeing.{last_lies, solved_set}
use Rattle.sweep.proofs.Branches.{sound}
use Rattle.sweep.proofs.Kept.{nodes_same, ends_same, writes_effects_then}
use Rattle.sweep.proofs.buffers.Sweeping.solve_region.Given as given
use Rattle.sweep.proofs.buffers.Sweeping.solve_region.Goals as goal
use Rattle.sweep.proofs.buffers.Sweeping.solve_region.Goals.{After-settle}

last_there : (g : given.Over) (c : After-settle g) → c.last_in-last.result < length (seen c.settle.new.self.plan.now).nodes
last_there g c =
    let self = c.args.self.now in
    let plan = self.plan.now in
    omega (
      arith,
      (last_lies (g.K.Kind.algebra self.kind.now) (seen plan) (sound plan) self.direction c.args.region c.args.ends c.requires).0,
      c.last_in-last.ensures,
      nodes_same (writes_effects_then c.start.ensures.writes c.settle.ensures.writes).same,
    )

region_there : (g : given.Over) (c : After-settle g) → c.args.region < length c.settle.new.self.regions.now
region_there g c =
    omega (arith, ended_there (seen c.args.self.now.plan.now) c.args.region c.args.ends c.requires, c.settle.new.self.region_slots, ends_same (writes_effects_then c.start.ensures.writes c.settle.ensures.writes).same)

pub offset_bounds-self-last : goal.offset_bounds-self-last
offset_bounds-self-last g c = let h : c.last_in-last.result < length c.settle.new.self.effects.now = omega (arith, last_there g c, c.settle.new.self.effect_slots) in search rules

pub bounds-self-last : goal.bounds-self-last
bounds-self-last g c = omega (arith, last_there g c, c.settle.new.self.effect_slots)

pub node_effect-requires : goal.node_effect-requires
node_effect-requires g c = last_there g (goal.at.node_effect-requires g c).After-settle

pub offset_bounds-self-region : goal.offset_bounds-self-region
offset_bounds-self-region g c = let h = region_there g (goal.at.offset_bounds-self-region g c).After-settle in search rules

pub returns-clause-solved : goal.returns-clause-solved
returns-clause-solved g c =
    let self = c.args.self.now in
    let a = g.K.Kind.algebra self.kind.now in
    let plan = self.plan.now in
    let p = seen plan in
    let s = sound plan in
    let d = self.direction in
    let e = c.args.ends in
    let regions = self.regions.now in
    let nodes = c.settle.new.self.effects.now in
    let last = c.last_in-last.result in
    let begun = c.start.ensures.writes in
    let kept = writes_effects_then begun c.settle.ensures.writes in
    let lowering = rw (begun.same.plan, begun.same.kind, begun.same.direction, begun.regions) at c.settle.ensures.lowering in
    let settled = rw (begun.same.plan, begun.same.kind, begun.same.direction, begun.regions) at c.settle.ensures.settled in
    let at = get_or_default nodes last c.index-self-last.result (passing a) (omega (arith, last_there g (goal.at.returns-clause-solved g c).After-settle, c.settle.new.self.effect_slots)) in
    let node = rw (kept.same.plan, kept.same.kind, kept.regions) at c.node_effect.ensures in
    let whole = rw kept.same.kind at c.followed.ensures in
    rw kept.regions
    (solved_set a p s d c.args.region nodes regions c.followed.result e (omega (arith, ended_there p c.args.region e c.requires, self.region_slots)) c.requires
    (lowering.lowered (starts (slot a c.start.new.self.effects.now) c.first_in-first.result (e, c.requires, sym c.first_in-first.ensures) (λ n l. c.start.ensures.put.inside n l.0 l.1)))
    settled
    (whole ∙ ap₂ (followed a) (at ∙ ap (slot a nodes) c.last_in-last.ensures) (node ∙ ap (node_does a p regions) c.last_in-last.ensures)))
