-- Which steps are redundant, and which earlier step each of them can count on.
--   Every       K holds of every step of a word
--   Since       a word holds a step of Q, and from it on, itself included, only steps of K
--   Available   a word holds a computation of e, undisturbed since
--   Backed      the same, by a step that is not listed
--   RedundantStep  the step computes an expression that is available on every run that reaches it
--   Redundant   listed are the redundant steps
--   Strikeable  listed are the steps whose expression is backed on every run that reaches them
use Rattle.std.specs.Prelude.{◌≡◌, ℕ, ◌<◌, Bool, true, false, ◌↔◌, List, [], ◌∷◌, ◌++◌, length, Some}
use Rattle.plan.specs.declared.node.Node.{Node}
use Rattle.plan.specs.declared.node.Node.TheVariants.{Step, Fork}
use Rattle.plan.specs.declared.node.Direction.TheVariants.{Forward}
use Rattle.plan.specs.Drawn.{Drawn, node_at, Sound}
use Rattle.plan.specs.Paths.{Whole}
use Rattle.expressions.specs.declared.expression.Expression.{Expression}
use Rattle.expressions.specs.Expressions.{computed_by, disturbed}
use Rattle.runs.specs.Runs.{Run}

pub data Every (K : ℕ → Type 0) : List ℕ → Type 0 where
  none : Every K []
  more : {n : ℕ} {w : List ℕ} → K n → Every K w → Every K (n ∷ w)

pub record Since (Q K : ℕ → Type 0) (w : List ℕ) : Type 0 where
  pub before : List ℕ
  pub at : ℕ
  pub behind : List ℕ
  pub cut : w ≡ before ++ (at ∷ behind)
  pub is : Q at
  pub kept : Every K (at ∷ behind)

-- a fork by itself disturbs nothing
abbrev pub disturbed_by : Node → Expression → Bool
disturbed_by (Step r s) e = disturbed s e
disturbed_by (Fork r b k) e = false

module _ (p : Drawn) (e : Expression) where
  abbrev pub Computes : ℕ → Type 0
  Computes n = computed_by (node_at p n) ≡ Some e

  abbrev pub Spares : ℕ → Type 0
  Spares n = disturbed_by (node_at p n) e ≡ false

  abbrev pub Available : List ℕ → Type 0
  Available w = Since Computes Spares w

  abbrev pub Backed : (ℕ → Bool) → List ℕ → Type 0
  Backed listed w = Since (λ m. Computes m × (listed m ≡ false)) Spares w

abbrev pub RedundantStep : Drawn → ℕ → Type 0
RedundantStep p n = (e : Expression) × Computes p e n × ((w : List ℕ) → Run p Forward n w → Available p e w)

module _ (p : Drawn) (listed : ℕ → Bool) where
  abbrev pub Redundant : Type 0
  Redundant = (n : ℕ) → n < length p.nodes → (listed n ≡ true) ↔ RedundantStep p n

  abbrev pub Strikeable : Type 0
  Strikeable = (n : ℕ) (e : Expression) → n < length p.nodes → Computes p e n
      → (listed n ≡ true) ↔ ((w : List ℕ) → Run p Forward n w → Backed p e listed w)

-- what every run already has, every run has from a step that stays: the list may be struck as a whole
abbrev pub StrikeLaw : Type 0
StrikeLaw = (p : Drawn) → Sound p → Whole p → (listed : ℕ → Bool) → Redundant p listed → Strikeable p listed
