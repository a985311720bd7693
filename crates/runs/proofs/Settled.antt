-- Lowering one effect again and again comes to rest, since ranks fall.
use Rattle.std.proofs.Common.{◌≡◌, ℕ, zero, suc, ◌+◌, ◌<◌, ◌⊎◌, ap, inl, inr, arith}
use Rattle.kinds.specs.declared.effect.Effect.{Effect}
use Rattle.kinds.specs.Kinds.{Algebra, Laws}
use Rattle.kinds.specs.Effects.{either_way}

module _ {V G : Type 0} {a : Algebra V G} (l : Laws a) where
  size : Effect G V → ℕ
  size e = a.gate_rank e.gate + a.rank e.forced

  either_falls : (e f : Effect G V) → (either_way a e f ≡ e) ⊎ (size (either_way a e f) < size e)
  unfolding size
  either_falls e f =
      elim (l.either_falls e.gate f.gate) [
        | inl g ↦
            elim (l.meet_falls e.forced f.forced) [
              | inl h ↦ inl (λ i. record { gate = g i; forced = h i })
              | inr h ↦ inr (omega (arith, ap a.gate_rank g))
            ]
        | inr g ↦
            elim (l.meet_falls e.forced f.forced) [
              | inl h ↦ inr (omega (arith, ap a.rank h))
              | inr h ↦ inr (omega arith)
            ]
      ]

  module _ (P : Effect G V → Type 0) (next : Effect G V → Effect G V) (keeps : (e : Effect G V) → P e → P (either_way a e (next e))) where
    settled_by : (k : ℕ) (e : Effect G V) → size e < k → P e → (f : Effect G V) × P f × (either_way a f (next f) ≡ f)
    settled_by zero e h p = absurd (omega arith)
    settled_by (suc k) e h p =
        elim (either_falls e (next e)) [
          | inl rests ↦ (e, p, rests)
          | inr falls ↦ settled_by k (either_way a e (next e)) (omega arith) (keeps e p)
        ]

    pub settled : (e : Effect G V) → P e → (f : Effect G V) × P f × (either_way a f (next f) ≡ f)
    settled e = settled_by (suc (size e)) e (omega arith)
