-- When the value of a variable is fixed before a node.
--   LastSet      the last step of a word that assigns v sets it to c
--   FixedTo      every run that reaches n leaves c in v
--   FixedBefore  the number that every run leaves in v, if it is one and the same
use Rattle.std.specs.Prelude.{◌≡◌, ℕ, ◌<◌, ◌≤◌, false, ◌⊎◌, ◌↔◌, List, ◌∷◌, ◌++◌, length, ℤ, Some, Option}
use Rattle.refusals.specs.declared.refusal.Refusal.{Refusal}
use Rattle.refusals.specs.declared.refusal.Refusal.TheVariants.{Missing, Operand}
use Rattle.plan.specs.declared.statement.Statement.TheVariants.{Set}
use Rattle.plan.specs.declared.node.Node.TheVariants.{Step}
use Rattle.plan.specs.declared.node.Direction.TheVariants.{Forward}
use Rattle.plan.specs.Drawn.{Drawn, node_at}
use Rattle.plan.specs.Paths.{Fault, Whole}
use Rattle.expressions.specs.Variables.{among}
use Rattle.runs.specs.Runs.{Run}
use Rattle.report.specs.Strikes.{Every}
use Rattle.report.specs.Unread.{assigned_by}

module _ (p : Drawn) (v : ℕ) where
  abbrev pub Sets : ℤ → ℕ → Type 0
  Sets c n = (r : ℕ) × (node_at p n ≡ Step r (Set v c))

  abbrev pub Unassigned : ℕ → Type 0
  Unassigned n = among v (assigned_by (node_at p n)) ≡ false

  pub record LastSet (c : ℤ) (w : List ℕ) : Type 0 where
    pub before : List ℕ
    pub at : ℕ
    pub behind : List ℕ
    pub cut : w ≡ before ++ (at ∷ behind)
    pub is : Sets c at
    pub kept : Every Unassigned behind

abbrev pub FixedTo : Drawn → ℕ → ℕ → ℤ → Type 0
FixedTo p v n c = (w : List ℕ) → Run p Forward n w → LastSet p v c w

pub record FixedBefore (p : Drawn) (v n : ℕ) (r : Option ℤ) : Type 0 where
  pub whole : Whole p
  pub node : n < length p.nodes
  pub variable : v < 16
  pub fixed : (c : ℤ) → (r ≡ Some c) ↔ FixedTo p v n c

abbrev pub FixedRefused : Drawn → ℕ → ℕ → Refusal → Type 0
FixedRefused p v n e =
    ((e ≡ Missing) × (length p.nodes ≤ n)) ⊎ (((e ≡ Operand) × (n < length p.nodes) × (16 ≤ v)) ⊎ ((n < length p.nodes) × (v < 16) × Fault p e))
