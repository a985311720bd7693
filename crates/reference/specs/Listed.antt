-- When the runs of a plan are listed, and what the answer holds.
use Rattle.std.specs.Prelude.{◌≡◌, ℕ, ◌≤◌, length}
use Rattle.plan.specs.Drawn.{Drawn}
use Rattle.plan.specs.Paths.{Whole, Fault}
use Rattle.reference.specs.declared.unlisted.Unlisted.{Unlisted}
use Rattle.reference.specs.declared.unlisted.Unlisted.TheVariants.{Refused, TooLarge, TooMany, NoMemory}

-- a plan with so few nodes and regions that its runs are listed
abbrev pub Few : Drawn → Type 0
Few p = (length p.nodes ≤ 12) × (length p.ends ≤ 8)

-- the runs of a whole plan were listed, and left a value for every node
pub record Listed (p : Drawn) (values : ℕ) : Type 0 where
  pub whole : Whole p
  pub few : Few p
  pub each : values ≡ length p.nodes

-- why the runs of a plan are not listed: the first of these that applies
abbrev pub NotListed : Drawn → Unlisted → Type 0
NotListed p (Refused e) = Fault p e
NotListed p TooLarge = Whole p × (Few p → ⊥)
NotListed p TooMany = Whole p × Few p
NotListed p NoMemory = Whole p × Few p
