use Rattle.std.proofs.Common.{Some, refl, arith, rules}
use mathlib.Core.Logic.{∥∥₁_map}
use Rattle.std.proofs.lemmas.List.{get_or_read, length-set}
use Rattle.plan.specs.Stored.{seen}
use Rattle.plan.proofs.Soundness.{sound_as, ends_sound}
use Rattle.plan.proofs.stored.Plan.ends.Goals as goal

pub invariant_of-self-clause-sound : goal.invariant_of-self-clause-sound
invariant_of-self-clause-sound c =
    let old = c.args.self.now in
    ∥∥₁_map old.sound
    (λ s. sound_as _ _ refl refl (search rules) (ends_sound (seen old) s c.args.region c.args.first c.args.last (omega arith) (omega arith, search (rules, get_or_read)) (omega arith, search (rules, get_or_read))))

pub invariant_of-self-clause-small : goal.invariant_of-self-clause-small
invariant_of-self-clause-small c =
    let old = c.args.self.now in
    (old.small.0, old.small.1, omega (arith, old.small.2, length-set old.ends.items c.args.region (Some (record { first = c.args.first; last = c.args.last }))))
