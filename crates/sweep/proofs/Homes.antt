-- The first node of a region lies in it.
use mathlib.Core.Logic.{∥∥₁_elim}
use Rattle.std.proofs.Common.{◌≡◌, ℕ, ◌<◌, length, Some, None, Option, refl, ap, ◌∙◌}
use Rattle.plan.specs.declared.node.Ends.{Ends}
use Rattle.plan.specs.Drawn.{Drawn, node_at, ends_at, region_of, Lies, Sound}
use Rattle.plan.specs.Paths.{Ended, Whole}
use Rattle.sweep.specs.Valuing.{first_or, home}

-- that a plan is whole, as a sweep holds it
pub ended : (p : Drawn) → ∥ Whole p ∥₁ → Ended p
ended p w r h none = ∥∥₁_elim w (λ x y. absurd x) (λ v. v.ended r h none)

module _ (p : Drawn) (s : Sound p) (w : Ended p) where
  pub home_lies : (q : ℕ) → q < length p.ends → Lies p q (home p q)
  home_lies q h = by (ends_at p q) refl
    where
      by : (o : Option Ends) → ends_at p q ≡ o → Lies p q (first_or 0 o)
      by None e = absurd (w q h e)
      by (Some e) is = (s.bounded q e is).0

  -- the homes of different regions differ
  pub homes_differ : (q m : ℕ) → q < length p.ends → (region_of (node_at p m) ≡ q → ⊥) → m ≡ home p q → ⊥
  homes_differ q m h ne e = ne (ap (λ (i : ℕ). region_of (node_at p i)) e ∙ (home_lies q h).1)
