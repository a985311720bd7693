use Rattle.std.proofs.Common.{◌≡◌, ◌-◌, List, get_or, Some, None, Option, sym, refl, ap, ◌∙◌, arith}
use Rattle.plan.specs.declared.node.Ends.{Ends}
use Rattle.plan.specs.Stored.{seen}
use Rattle.sweep.proofs.Assembled.{solved_more, all_solved}
use Rattle.sweep.proofs.Branches.{sound}
use Rattle.sweep.proofs.Homes.{ended}
use Rattle.sweep.proofs.Kept.{same_then}
use Rattle.sweep.proofs.buffers.Sweeping.solve.Goals as goal

-- ends that are there are some ends
neither : (o : Option Ends) → (o ≡ None → ⊥) → ((e : Ends) → o ≡ Some e → ⊥) → ⊥
neither None none some = none refl
neither (Some e) none some = some e refl

pub loop-region-preserved : goal.loop-region-preserved
loop-region-preserved g c =
    let self = c.args.self.now in
    let p = seen self.plan.now in
    let l = c.loop-region in
    let i = l.region in
    let is = ap (λ (es : List (Option Ends)). get_or es (i - 1) None) (sym (rw l.invariant.same.plan at c.regions.ensures)) in
    absurd (neither _ (ended p self.whole (i - 1) (omega (arith, c.loop-region-test.true, l.auto.region, self.region_slots)))
    (λ e at. c.in_default.not-Some e (sym is ∙ at)))

pub loop-region-preserved-in-Some : goal.loop-region-preserved-in-Some
loop-region-preserved-in-Some g c =
    let self = c.args.self.now in
    let p = seen self.plan.now in
    let l = c.loop-region in
    let same = l.invariant.same in
    let done = c.solve_region.ensures in
    record {
      same = same_then same done.same;
      values = done.values ∙ l.invariant.values;
      solved = solved_more (g.K.Kind.algebra self.kind.now) p (sound self.plan.now) self.direction l.region (l.region - 1)
          l.self.effects.now c.solve_region.new.self.effects.now l.self.regions.now c.solve_region.new.self.regions.now (omega (arith, c.loop-region-test.true))
          (rw (same.plan, same.kind, same.direction) at done.solved) (rw (same.plan, same.kind) at done.nodes) (rw same.kind at done.regions) l.invariant.solved;
    }

pub returns-clause-solved : goal.returns-clause-solved
returns-clause-solved g c =
    let self = c.args.self.now in
    let l = c.loop-region in
    all_solved (g.K.Kind.algebra self.kind.now) (seen self.plan.now) (sound self.plan.now) self.direction l.self.effects.now l.self.regions.now
    (λ q h o. l.invariant.solved q (omega (arith, c.loop-region-test.false)) o)
