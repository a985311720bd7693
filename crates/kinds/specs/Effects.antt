-- Effects, and the order of values.
--   act         what an effect makes of a value
--   passing     the effect that leaves every value as it is
--   blocked     the effect that makes the top of every value
--   followed    one effect, and then another
--   either_way  one effect or another: their meet
--   beside      two effects at once, in whatever order
--   Below       x is below y
--   IsMeet      the meet of the values of a set, finite or not
use Rattle.std.specs.Prelude.{◌≡◌}
use Rattle.kinds.specs.declared.effect.Effect.{Effect}
use Rattle.kinds.specs.Kinds.{Algebra}

module _ {V G : Type 0} (a : Algebra V G) where
  abbrev pub act : Effect G V → V → V
  act e x = a.meet (a.through e.gate x) e.forced

  abbrev pub passing : Effect G V
  passing = record { gate = a.open_gate; forced = a.top }

  abbrev pub blocked : Effect G V
  blocked = record { gate = a.shut_gate; forced = a.top }

  abbrev pub followed : Effect G V → Effect G V → Effect G V
  followed e f = record { gate = a.series e.gate f.gate; forced = a.meet (a.through f.gate e.forced) f.forced }

  abbrev pub either_way : Effect G V → Effect G V → Effect G V
  either_way e f = record { gate = a.either e.gate f.gate; forced = a.meet e.forced f.forced }

  abbrev pub beside : Effect G V → Effect G V → Effect G V
  beside e f = record { gate = a.series e.gate f.gate; forced = a.meet e.forced f.forced }

  pub record Below (x y : V) : Type 0 where
    pub is : a.meet x y ≡ x

  -- v is below the value of every member of the set, and whatever is below them all is below v
  pub record IsMeet {X : Type 0} (member : X → Type 0) (value : X → V) (v : V) : Type 0 where
    pub lower : (x : X) → member x → Below v (value x)
    pub greatest : (z : V) → ((x : X) → member x → Below z (value x)) → Below z v
