use Rattle.std.proofs.Common.{refl, arith, rules}
use mathlib.Core.Logic.{∥∥₁_map}
use Rattle.std.proofs.lemmas.List.{get_or_read}
use Rattle.plan.specs.Stored.{seen}
use Rattle.plan.proofs.Soundness.{sound_as, arc_sound}
use Rattle.plan.proofs.stored.Plan.arc.Goals as goal

pub invariant_of-self-clause-sound : goal.invariant_of-self-clause-sound
invariant_of-self-clause-sound c =
    let old = c.args.self.now in
    ∥∥₁_map old.sound
    (λ s. sound_as _ _ refl c.push_reserved.ensures.items refl (arc_sound (seen old) s c.args.from c.args.to (omega arith, omega arith, search (rules, get_or_read))))
