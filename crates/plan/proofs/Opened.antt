-- A sound plan is sound in one way only, so the truncated fact in a stored plan can be opened.
use mathlib.Core.Logic.{∥∥₁_elim}
use mathlib.Core.HLevel.{×_prop, ×₃_prop}
use native.Mathlib.Nat.{ℕ_set}
use native.Mathlib.Bridge.{le_prop}
use Rattle.plan.specs.Drawn.{Drawn, Sound}

sound_prop : (p : Drawn) → IsProp (Sound p)
sound_prop p s t = λ i. record {
  counted = ℕ_set _ _ s.counted t.counted i;
  placed = λ n h. le_prop (s.placed n h) (t.placed n h) i;
  forked = λ n r b k h e. ℕ_set _ _ (s.forked n r b k h e) (t.forked n r b k h e) i;
  joined = λ k h. ×₃_prop le_prop le_prop (ℕ_set _ _) (s.joined k h) (t.joined k h) i;
  bounded = λ r e is. ×_prop (×_prop le_prop (ℕ_set _ _)) (×_prop le_prop (ℕ_set _ _)) (s.bounded r e is) (t.bounded r e is) i;
}

pub opened : (p : Drawn) → ∥ Sound p ∥₁ → Sound p
opened p s = ∥∥₁_elim s (sound_prop p) (λ t. t)
