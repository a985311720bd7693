use Rattle.std.proofs.Common.{◌≡◌, ℕ, refl, ap, set, arith, rules}
use mathlib.Core.Logic.{∥∥₁_map}
use Rattle.std.proofs.lemmas.List.{get_or_read, length-set}
use Rattle.plan.specs.declared.node.Node.TheVariants.{Step}
use Rattle.plan.specs.Drawn.{node_at, region_of}
use Rattle.plan.specs.Stored.{seen}
use Rattle.plan.proofs.Soundness.{sound_as, change_sound}
use Rattle.plan.proofs.Ranges.{ranged_set}
use Rattle.plan.proofs.stored.Plan.change.Goals as goal

pub invariant_of-self-clause-sound : goal.invariant_of-self-clause-sound
invariant_of-self-clause-sound c =
    let old = c.args.self.now in
    let region : c.in-Step.region ≡ region_of (node_at (seen old) c.args.node) = search (rules, get_or_read) in
    ∥∥₁_map old.sound
    (λ s. sound_as _ _ (ap (λ (r : ℕ). set old.nodes.items c.args.node (Step r c.args.statement)) region) refl refl (change_sound (seen old) s c.args.node c.args.statement (omega arith) (search (rules, get_or_read))))

pub invariant_of-self-clause-small : goal.invariant_of-self-clause-small
invariant_of-self-clause-small c =
    let old = c.args.self.now in
    (omega (arith, old.small.0, length-set old.nodes.items c.args.node (Step c.in-Step.region c.args.statement)), old.small.1, old.small.2)

pub invariant_of-self-clause-ranged : goal.invariant_of-self-clause-ranged
invariant_of-self-clause-ranged c =
    let old = c.args.self.now in
    ranged_set old.nodes.items (Step c.in-Step.region c.args.statement) (search rules) old.ranged c.args.node (omega arith)
