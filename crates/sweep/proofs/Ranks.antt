-- What changes falls in rank.
use Rattle.std.proofs.Common.{◌≡◌, ℕ, zero, suc, ◌<◌, ◌⊎◌, List, [], ◌∷◌, length, get_or, set, ap, ap₂, inl, inr, arith}
use Rattle.kinds.specs.declared.effect.Effect.{Effect}
use Rattle.kinds.specs.Kinds.{Algebra, Laws}
use Rattle.kinds.specs.Effects.{either_way}
use Rattle.sweep.specs.Rounds.{effect_rank, rank_sum}

module _ {V G : Type 0} (a : Algebra V G) where
  -- a slot of lower rank lowers the sum
  pub sum_falls : (es : List (Effect G V)) (i : ℕ) (e d : Effect G V) → i < length es → effect_rank a e < effect_rank a (get_or es i d) → rank_sum a (set es i e) < rank_sum a es
  sum_falls [] i e d h l = absurd (omega arith)
  sum_falls (x ∷ es) zero e d h l = omega arith
  sum_falls (x ∷ es) (suc i) e d h l = omega (arith, sum_falls es i e d (omega arith) l)

  -- a meet that changes an effect lowers its rank
  pub effect_falls : Laws a → (e f : Effect G V) → (either_way a e f ≡ e → ⊥) → effect_rank a (either_way a e f) < effect_rank a e
  effect_falls laws e f other = by (laws.either_falls e.gate f.gate) (laws.meet_falls e.forced f.forced)
    where
      by : (a.either e.gate f.gate ≡ e.gate) ⊎ (a.gate_rank (a.either e.gate f.gate) < a.gate_rank e.gate)
          → (a.meet e.forced f.forced ≡ e.forced) ⊎ (a.rank (a.meet e.forced f.forced) < a.rank e.forced)
          → effect_rank a (either_way a e f) < effect_rank a e
      by (inl p) (inl q) = absurd (other (ap₂ (λ g v. record { gate = g; forced = v }) p q))
      by (inl p) (inr l) = omega (arith, l, ap a.gate_rank p)
      by (inr k) (inl q) = omega (arith, k, ap a.rank q)
      by (inr k) (inr l) = omega arith
