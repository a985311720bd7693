use Rattle.std.proofs.Common.{◌≡◌, ℕ, get_or, set, ap, ◌∙◌, ap₂, arith, rules}
use Rattle.std.proofs.lemmas.List.{get_or_default}
use Rattle.kinds.specs.Effects.{followed, either_way}
use Rattle.plan.specs.Stored.{seen}
use Rattle.sweep.specs.Slots.{slot}
use Rattle.sweep.specs.Rounds.{node_does, brought, effect_rank}
use Rattle.sweep.proofs.Ranks.{sum_falls, effect_falls}
use Rattle.sweep.proofs.buffers.Sweeping.lower.Goals as goal

pub returns-clause-told : goal.returns-clause-told
returns-clause-told g c =
    let k = c.args.self.now.kind.now in
    let a = g.K.Kind.algebra k in
    let p = seen c.args.self.now.plan.now in
    let es = c.args.self.now.effects.now in
    let regions = c.args.self.now.regions.now in
    let arc = c.args.arc in
    let old = get_or es arc.to c.index-self-arc-2.result in
    let new = c.either_way-new.result in
    let along = c.followed-along.result in
    let old-is : old ≡ slot a es arc.to = get_or_default es arc.to _ _ (omega (arith, c.args.self.now.effect_slots)) in
    let along-is : along ≡ followed a (slot a es arc.from) (node_does a p regions arc.from) = c.followed-along.ensures ∙ ap₂ (followed a) (get_or_default es arc.from _ _ (omega (arith, c.args.self.now.effect_slots))) c.node_effect.ensures in
    let new_is : new ≡ brought a p regions es arc = c.either_way-new.ensures ∙ ap₂ (either_way a) old-is along-is in
    let differs : either_way a old along ≡ old → ⊥ = λ e. (let t = c.same_effect.ensures.1 (c.either_way-new.ensures ∙ e) in let z : ◌≡◌ {A = ℕ} 0 1 = cc in omega arith) in
    record {
      inside = search (rules, get_or_default);
      is = ap (set es arc.to) new_is;
      falls = sum_falls a es arc.to new c.index-self-arc-2.result (omega (arith, c.args.self.now.effect_slots))
          (omega (arith, effect_falls a (g.met.K.Kind.lawful k) old along differs, ap (effect_rank a) c.either_way-new.ensures));
    }
