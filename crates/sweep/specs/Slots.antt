-- Effects and values held in slots, one for each node or region.
use Rattle.std.specs.Prelude.{◌≡◌, ℕ, ◌<◌, List, [], ◌∷◌, length, ◌≢◌, slice_index_or}
use Rattle.plan.specs.Drawn.{Drawn, node_at, region_of}
use Rattle.kinds.specs.declared.effect.Effect.{Effect}
use Rattle.kinds.specs.Kinds.{Algebra}
use Rattle.kinds.specs.Effects.{passing, beside}

module _ {V G : Type 0} (a : Algebra V G) where
  -- the effect in a slot
  abbrev pub slot : List (Effect G V) → ℕ → Effect G V
  slot es n = slice_index_or es n (passing a)

  -- the forced value in a slot
  abbrev pub forced_slot : List (Effect G V) → ℕ → V
  forced_slot es n = (slot es n).forced

  -- the value in a slot
  abbrev pub value_slot : List V → ℕ → V
  value_slot vs n = slice_index_or vs n a.top

  -- the joint effect of a row of branches: their gates in series, and their forced values met
  abbrev pub joint_of : List (Effect G V) → Effect G V
  joint_of [] = passing a
  joint_of (e ∷ es) = beside a e (joint_of es)

-- the slots of the nodes below n that lie in region r hold what `fill` gives, and all others what they held; t stands for a slot that is not there
pub record PutTo {X : Type 0} (t : X) (p : Drawn) (r : ℕ) (fill : ℕ → X) (before after : List X) (n : ℕ) : Type 0 where
  pub inside : (k : ℕ) → k < n → region_of (node_at p k) ≡ r → slice_index_or after k t ≡ fill k
  pub others : (k : ℕ) → (region_of (node_at p k) ≢ r) → slice_index_or after k t ≡ slice_index_or before k t
  pub long : length after ≡ length before
