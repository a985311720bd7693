use Rattle.std.proofs.Common.{◌≡◌, ℕ, ◌<◌, length, get_or, ap, ◌∙◌, subst, arith}
use Rattle.std.proofs.lemmas.List.{get_or_default}
use Rattle.plan.specs.Stored.{seen}
use Rattle.sweep.specs.Slots.{value_slot}
use Rattle.sweep.specs.Valuing.{home, ValuedTo}
use Rattle.sweep.proofs.Branches.{sound}
use Rattle.sweep.proofs.Homes.{ended, home_lies}
use Rattle.sweep.proofs.Kept.{writes_values_then}
use Rattle.sweep.proofs.Owners.{Owns, owned_branch, owned_above, owner_unique}
use Rattle.sweep.proofs.Values.{valued_more}
use Rattle.sweep.proofs.buffers.Sweeping.fill_values.Goals as goal
use Rattle.sweep.proofs.buffers.Sweeping.fill_values.Goals.{then-region-eq0, else-region-eq0}

pub loop-region-preserved : goal.loop-region-preserved
loop-region-preserved g c =
    let self = c.args.self.now in
    let a = g.K.Kind.algebra self.kind.now in
    let p = seen self.plan.now in
    let s = sound self.plan.now in
    let l = c.loop-region in
    let r = l.region in
    let values = l.self.values.now in
    let sides = self.values.now in
    let kept = l.invariant.writes in
    let within : r < length p.ends = omega (arith, c.loop-region-test.true, ap length c.regions-region-end.ensures) in
    let lies = home_lies p s (ended p self.whole) r within in
    let side = get_or values c.home.result c.index-self-home.result in
    let side-is : side ≡ value_slot a sides (home p r) =
    get_or_default values c.home.result _ a.top (omega (arith, c.home.ensures.there, l.self.value_slots))
    ∙ ap (value_slot a values) (rw kept.same.plan at c.home.ensures.is) ∙ l.invariant.valued.rest (home p r) lies.0 (omega (arith, lies.1)) in
    let outer : r ≡ 0 → c.if-region-eq0.base ≡ c.args.start = elim c.if-region-eq0.branch [
      | then-region-eq0 w ↦ λ e. w.base-is
      | else-region-eq0 w ↦ λ e. absurd (w.if-region-eq0.false e)
    ] in
    let inner : (f : ℕ) → Owns p f r → c.if-region-eq0.base ≡ value_slot a values f = elim c.if-region-eq0.branch [
      | then-region-eq0 w ↦ λ f o. absurd (omega (arith, owned_above p s f r o, w.if-region-eq0.true))
      | else-region-eq0 w ↦ λ f o.
          let found = rw kept.same.plan at w.fork_of.ensures in
          w.base-is ∙ get_or_default values w.fork_of.result _ a.top (omega (arith, w.fork_of.ensures.0, l.self.value_slots))
          ∙ ap (value_slot a values) (owner_unique p s w.fork_of.result f r (owned_branch p w.fork_of.result r found.0 found.1) o)
    ] in
    record {
      writes = writes_values_then kept c.fill_region.ensures.writes;
      valued = valued_more a p s c.args.start self.effects.now sides values c.fill_region.new.self.values.now r c.if-region-eq0.base side
          outer inner side-is (rw (kept.same.plan, kept.same.kind, kept.effects) at c.fill_region.ensures.put) l.invariant.valued;
    }

pub returns-clause-valued : goal.returns-clause-valued
returns-clause-valued g c =
    let self = c.args.self.now in
    let l = c.loop-region in
    let last : l.region ≡ length (seen self.plan.now).ends = omega (arith, c.loop-region-test.false, l.auto.region-end, ap length c.regions-region-end.ensures) in
    subst (ValuedTo (g.K.Kind.algebra self.kind.now) (seen self.plan.now) c.args.start self.effects.now self.values.now l.self.values.now) last l.invariant.valued
