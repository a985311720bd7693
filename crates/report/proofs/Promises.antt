-- A sweep that keeps its contract, and a list that keeps its own, keep the promise.
use Rattle.std.proofs.Common.{◌≡◌, ℕ, ◌≤◌, List, length, is_ok, Ok, Err, Result, refl, ap, inl, inr, arith, MatchResult}
use borrow.Author.Tests.{clash}
use Rattle.refusals.specs.declared.refusal.Refusal.{Refusal}
use Rattle.refusals.specs.declared.refusal.Refusal.TheVariants.{Missing, Operand, Branches, Outside, Repeated, NotStep, Full, NoEnds, Unreached, Stranded, TooManyExpressions, Short, NotTenths}
use Rattle.plan.specs.declared.node.Direction.{Direction}
use Rattle.plan.specs.Drawn.{Drawn}
use Rattle.plan.specs.Paths.{Whole, Fault}
use Rattle.kinds.specs.declared.effect.Effect.{Effect}
use Rattle.kinds.specs.Kinds.{Algebra}
use Rattle.sweep.specs.Swept.{ValuesMeet, Swept, Refused as SweepRefused}
use Rattle.report.specs.Listing.{listed_in, ListsRedundant}
use Rattle.report.specs.Strikes.{Strikeable}
use Rattle.report.specs.Replayed.{Promised}

-- a whole plan has no fault
faultless : (p : Drawn) (e : Refusal) → Whole p → Fault p e → ⊥
faultless p (NoEnds r) w f = f.lacks (w.ended r f.within)
faultless p (Unreached n) w f = f.1.lacks (w.reached n f.1.within)
faultless p (Stranded n) w f = f.2.lacks (w.leaves n f.2.within)
faultless p Missing w f = f
faultless p Operand w f = f
faultless p Branches w f = f
faultless p Outside w f = f
faultless p Repeated w f = f
faultless p NotStep w f = f
faultless p Full w f = f
faultless p (TooManyExpressions n) w f = f
faultless p Short w f = f
faultless p NotTenths w f = f

module _ {V G : Type 0} (a : Algebra V G) (p : Drawn) (d : Direction) (start : V) (values values' : List V) (effects effects' regions regions' : List (Effect G V)) where
  swept_meets : (r : Result (Unit {0}) Refusal) (Q : Type 0) → MatchResult r (λ _. Swept a p d start values values' effects effects' regions regions') (λ e. SweepRefused p (length values) (length effects) (length regions) e × Q)
      → Whole p → length p.nodes ≤ length values → length p.nodes ≤ length effects → length p.ends ≤ length regions → (r ≡ Ok tt) × ValuesMeet a p d start values'
  swept_meets (Ok tt) Q s w hv he hr = (refl, s.values_meet)
  swept_meets (Err e) Q s w hv he hr =
      elim s.0 [
        | inl f ↦ absurd (faultless p e w f)
        | inr t ↦ elim t.2 [ inl v ↦ absurd (omega (arith, v, hv)) | inr u ↦ elim u [ inl x ↦ absurd (omega (arith, x, he)) | inr y ↦ absurd (omega (arith, y, hr)) ] ]
      ]

  list_strikes : (before after : List ℕ) (r : Result (Unit {0}) Refusal) (Q : Refusal → Type 0) → MatchResult r (λ _. ListsRedundant p before after) Q → r ≡ Ok tt → Strikeable p (listed_in after)
  list_strikes before after (Ok tt) Q l e = l.strikeable
  list_strikes before after (Err f) Q l e = absurd (clash (ap is_ok e))

  pub promised : (r s : Result (Unit {0}) Refusal) (before after : List ℕ) (Q : Type 0) (R : Refusal → Type 0)
      → MatchResult r (λ _. Swept a p d start values values' effects effects' regions regions') (λ e. SweepRefused p (length values) (length effects) (length regions) e × Q)
      → MatchResult s (λ _. ListsRedundant p before after) R
      → Promised a p d start (length values) (length effects) (length regions) r values' s after
  promised r s before after Q R swept listed = record { meets = swept_meets r Q swept; strikes = list_strikes before after s R listed }
