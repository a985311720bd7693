use Rattle.std.proofs.Common.{◌≡◌, ◌+◌, ◌<◌, Bool, List, length, get_or, sym, ap, ◌∙◌, subst, arith}
use Rattle.plan.specs.declared.node.Arc.{Arc}
use Rattle.plan.specs.Drawn.{arc_at}
use Rattle.plan.specs.Paths.{turned}
use Rattle.plan.specs.Stored.{seen}
use Rattle.sweep.proofs.Branches.{sound}
use Rattle.sweep.proofs.Kept.{writes_effects_then}
use Rattle.sweep.proofs.Turns.{Turn, turn_new, turn_same}
use Rattle.sweep.proofs.buffers.Sweeping.round.Goals as goal
use Rattle.sweep.proofs.buffers.Sweeping.round.Goals.{then-lower, else-lower}

pub loop-arc-preserved : goal.loop-arc-preserved
loop-arc-preserved g c =
    let self = c.args.self.now in
    let a = g.K.Kind.algebra self.kind.now in
    let p = seen self.plan.now in
    let regions = self.regions.now in
    let d = self.direction in
    let r = c.args.region in
    let start = self.effects.now in
    let l = c.loop-arc in
    let i = l.arc-index in
    let arc = c.turned.result in
    let old = l.self.effects.now in
    let new = c.lower.new.self.effects.now in
    let kept = l.invariant.writes in
    let slice = c.arcs-arc-items.ensures in
    let is : arc ≡ turned d (arc_at p i) = rw kept.same.direction at c.turned.ensures ∙ ap (λ (arcs : List Arc). turned d (get_or arcs i (record { from = 0; to = 0 }))) slice in
    let within : i < length p.arcs = omega (arith, c.loop-arc-test.true, ap length slice) in
    let P : Bool → Type 0 = λ b. Turn a p regions d r b start new (i + 1) in
    record {
      writes = writes_effects_then kept c.lower.ensures.writes;
      turn = elim c.if-lower.branch [
        | then-lower w ↦
            subst P (sym w.changed-is)
            (turn_new a p regions d r (sound self.plan.now) l.changed start old new i arc within is self.effect_slots (rw (kept.same.plan, kept.same.kind, kept.regions) at w.if-lower.ensures.told) l.invariant.turn)
        | else-lower w ↦ subst P (sym w.changed-is) (turn_same a p regions d r l.changed start old new i arc is (rw (kept.same.plan, kept.same.kind, kept.regions) at w.if-lower.ensures.told) l.invariant.turn)
      ];
    }
