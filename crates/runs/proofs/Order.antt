-- What the laws give of the order of values, and of effects.
use Rattle.std.proofs.Common.{◌≡◌, sym, ap, ◌∙◌, subst}
use Rattle.kinds.specs.declared.effect.Effect.{Effect}
use Rattle.kinds.specs.Kinds.{Algebra, Laws}
use Rattle.kinds.specs.Effects.{Below, act, passing, blocked, followed, either_way}
use Rattle.runs.proofs.Rules.{laws}

module _ {V G : Type 0} {a : Algebra V G} (l : Laws a) where
  open a use {meet, top, through}

  pub below_refl : {x : V} → Below a x x
  below_refl {x} = record { is = l.meet_idem x }

  pub below_eq : {x y : V} → x ≡ y → Below a x y
  below_eq {x} e = subst (Below a x) e below_refl

  pub below_trans : {x y z : V} → Below a x y → Below a y z → Below a x z
  below_trans {x} {y} {z} p q = record { is = ap (λ t. meet t z) (sym p.is) ∙ l.meet_assoc x y z ∙ ap (meet x) q.is ∙ p.is }

  -- below what is equal
  pub below_is : {x y z : V} → Below a z x → x ≡ y → Below a z y
  below_is {z = z} p e = subst (Below a z) e p

  pub below_antisym : {x y : V} → Below a x y → Below a y x → x ≡ y
  below_antisym {x} {y} p q = sym p.is ∙ l.meet_comm x y ∙ q.is

  pub below_top : (x : V) → Below a x top
  below_top x = record { is = l.meet_top x }

  pub meet_left : (x y : V) → Below a (meet x y) x
  meet_left x y = record { is = simp (laws, l) }

  pub meet_right : (x y : V) → Below a (meet x y) y
  meet_right x y = record { is = simp (laws, l) }

  -- what is below both is below their meet
  pub below_meet : {x y z : V} → Below a z x → Below a z y → Below a z (meet x y)
  below_meet {x} {y} {z} p q = record { is = sym (l.meet_assoc z x y) ∙ ap (λ t. meet t y) p.is ∙ q.is }

  pub meet_mono : {x y u v : V} → Below a x u → Below a y v → Below a (meet x y) (meet u v)
  meet_mono {x} {y} p q = below_meet (below_trans (meet_left x y) p) (below_trans (meet_right x y) q)

  pub below_through : (g : G) (x : V) → Below a x (through g x)
  below_through g x = record { is = l.through_raises g x }

  pub through_mono : (g : G) {x y : V} → Below a x y → Below a (through g x) (through g y)
  through_mono g {x} {y} p = record { is = sym (l.through_meet g x y) ∙ ap (through g) p.is }

  pub act_mono : (e : Effect G V) {x y : V} → Below a x y → Below a (act a e x) (act a e y)
  act_mono e p = meet_mono (through_mono e.gate p) below_refl

  pub act_forced : (e : Effect G V) (x : V) → Below a (act a e x) e.forced
  act_forced e x = meet_right (through e.gate x) e.forced

  pub act_top : (e : Effect G V) → act a e top ≡ e.forced
  act_top e = simp (laws, l)

  pub act_meet : (e : Effect G V) (x y : V) → act a e (meet x y) ≡ meet (act a e x) (act a e y)
  act_meet e x y = simp (laws, l)

  -- what is below an effect at both is below the effect at their meet
  pub below_act_meet : (e : Effect G V) {x y z : V} → Below a z (act a e x) → Below a z (act a e y) → Below a z (act a e (meet x y))
  below_act_meet e {x} {y} p q = below_is (below_meet p q) (sym (act_meet e x y))

  pub act_passing : (x : V) → act a (passing a) x ≡ x
  act_passing x = simp (laws, l)

  pub act_blocked : (x : V) → act a (blocked a) x ≡ top
  act_blocked x = simp (laws, l)

  pub act_followed : (e f : Effect G V) (x : V) → act a (followed a e f) x ≡ act a f (act a e x)
  act_followed e f x = simp (laws, l)

  pub act_either : (e f : Effect G V) (x : V) → act a (either_way a e f) x ≡ meet (act a e x) (act a f x)
  act_either e f x = simp (laws, l)

  pub either_left : (e f : Effect G V) (x : V) → Below a (act a (either_way a e f) x) (act a e x)
  either_left e f x = record { is = simp (laws, l) }

  pub either_right : (e f : Effect G V) (x : V) → Below a (act a (either_way a e f) x) (act a f x)
  either_right e f x = record { is = simp (laws, l) }
