use Rattle.std.proofs.Common.{refl, sym, subst, arith, rules}
use mathlib.Core.Logic.{∥∥₁_map}
use Rattle.plan.specs.declared.node.Node.TheVariants.{Fork}
use Rattle.plan.specs.Stored.{seen}
use Rattle.plan.proofs.Soundness.{sound_as, fork_sound}
use Rattle.plan.proofs.Ranges.{AllRanged, ranged_pushed}
use Rattle.plan.proofs.stored.Plan.fork.Goals as goal

pub invariant_of-self-clause-sound : goal.invariant_of-self-clause-sound
invariant_of-self-clause-sound c =
    let old = c.args.self.now in
    ∥∥₁_map old.sound
    (λ s. sound_as _ _ (search rules) refl c.add_regions.ensures.items (fork_sound (seen old) s c.args.region c.args.branches (omega arith)))

pub invariant_of-self-clause-ranged : goal.invariant_of-self-clause-ranged
invariant_of-self-clause-ranged c =
    let old = c.args.self.now in
    subst AllRanged (sym c.push_reserved.ensures.items) (ranged_pushed old.nodes.items (Fork c.args.region _ c.args.branches) refl old.ranged)
