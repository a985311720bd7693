-- Meets of rows of values.
use Rattle.std.proofs.Common.{◌≡◌, ℕ, zero, suc, ◌+◌, ◌-◌, ◌≤◌, List, [], ◌∷◌, length, take, drop, refl, ap, ◌∙◌, arith, drop-cons}
use Rattle.kinds.specs.declared.effect.Effect.{Effect}
use Rattle.kinds.specs.Kinds.{Algebra}
use Rattle.kinds.specs.Effects.{passing}
use Rattle.runs.specs.Words.{count_from}
use Rattle.runs.specs.Scheme.{met, Pick, Pick.here, Pick.there}
use Rattle.sweep.proofs.Owners.{picked_from}
use Rattle.sweep.specs.Slots.{forced_slot}
use Rattle.sweep.specs.Valuing.{met_of, met_but}

module _ {V G : Type 0} (a : Algebra V G) where
  -- where there is no such one, all but it are all
  pub met_past : (vs : List (Effect G V)) (i : ℕ) → length vs ≤ i → met_but a vs i ≡ met_of a vs
  met_past [] i h = refl
  met_past (v ∷ vs) zero h = absurd (omega arith)
  met_past (v ∷ vs) (suc i) h = ap (a.meet v.forced) (met_past vs i (omega arith))

  -- the meet over the branches of a fork, taken from their slots
  pub met_slots : (vs : List (Effect G V)) (b k : ℕ) → b + k ≤ length vs → met_of a (take k (drop b vs)) ≡ met a (forced_slot a vs) (count_from b k)
  met_slots vs b zero h = refl
  met_slots vs b (suc k) h =
      ap (λ (us : List (Effect G V)). met_of a (take (suc k) us)) (drop-cons vs b (passing a) (omega arith))
      ∙ ap (a.meet (forced_slot a vs b)) (met_slots vs (suc b) k (omega arith))

  -- the same of all branches but one
  pub but_slots : (vs : List (Effect G V)) (b k q : ℕ) (rs : List ℕ) → b + k ≤ length vs → Pick q (count_from b k) rs → met_but a (take k (drop b vs)) (q - b) ≡ met a (forced_slot a vs) rs
  but_slots vs b zero q rs h k' = elim k' [ ]
  but_slots vs b (suc k) _ _ h here =
      let none : b - b ≡ 0 = omega arith in
      ap (met_but a (take (suc k) (drop b vs))) none
      ∙ ap (λ (us : List (Effect G V)). met_but a (take (suc k) us) 0) (drop-cons vs b (passing a) (omega arith)) ∙ met_slots vs (suc b) k (omega arith)
  but_slots vs b (suc k) q _ h (there {rs = rs} k') =
      let t = picked_from (suc b) k q rs k' in
      let less : q - b ≡ suc (q - suc b) = omega arith in
      ap (met_but a (take (suc k) (drop b vs))) less
      ∙ ap (λ (us : List (Effect G V)). met_but a (take (suc k) us) (suc (q - suc b))) (drop-cons vs b (passing a) (omega arith))
      ∙ ap (a.meet (forced_slot a vs b)) (but_slots vs (suc b) k q rs (omega arith) k')
