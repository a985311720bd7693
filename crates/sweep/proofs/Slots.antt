-- Slots in a row.
use Rattle.std.proofs.Common.{◌≡◌, ℕ, zero, suc, ◌+◌, ◌<◌, ◌≤◌, List, length, take, drop, refl, ap, ◌∙◌, arith, drop-cons}
use Rattle.kinds.specs.declared.effect.Effect.{Effect}
use Rattle.kinds.specs.Kinds.{Algebra}
use Rattle.kinds.specs.Effects.{passing, beside}
use Rattle.runs.specs.Words.{count_from}
use Rattle.runs.specs.Actions.{joint}
use Rattle.sweep.specs.Slots.{slot, joint_of}

module _ {V G : Type 0} (a : Algebra V G) where
  -- the joint effect of the branches of a fork, taken from their slots
  pub joint_slots : (es : List (Effect G V)) (b k : ℕ) → b + k ≤ length es → joint_of a (take k (drop b es)) ≡ joint a (slot a es) (count_from b k)
  joint_slots es b zero h = refl
  joint_slots es b (suc k) h =
      let within : b < length es = omega arith in
      ap (λ (ds : List (Effect G V)). joint_of a (take (suc k) ds)) (drop-cons es b (passing a) within)
      ∙ ap (beside a (slot a es b)) (joint_slots es (suc b) k (omega arith))
