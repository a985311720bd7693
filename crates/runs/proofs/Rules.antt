-- The laws of a kind as rewriting rules: `simp (laws, l)` proves what they give of meets, gates and effects.
use Rattle.std.proofs.Common.{◌≡◌, sym, ap, ◌∙◌}
use Rattle.kinds.specs.Kinds.{Algebra, Laws}

module _ {V G : Type 0} {a : Algebra V G} (l : Laws a) where
  open a use {meet, top, through}

  pub assoc : (x y z : V) → meet (meet x y) z ≡ meet x (meet y z)
  assoc = l.meet_assoc

  pub comm : (x y : V) → meet x y ≡ meet y x
  comm = l.meet_comm

  pub left_comm : (x y z : V) → meet x (meet y z) ≡ meet y (meet x z)
  left_comm x y z = sym (l.meet_assoc x y z) ∙ ap (λ t. meet t z) (l.meet_comm x y) ∙ l.meet_assoc y x z

  pub idem : (x : V) → meet x x ≡ x
  idem = l.meet_idem

  pub left_idem : (x y : V) → meet x (meet x y) ≡ meet x y
  left_idem x y = sym (l.meet_assoc x x y) ∙ ap (λ t. meet t y) (l.meet_idem x)

  pub unit : (x : V) → meet x top ≡ x
  unit = l.meet_top

  pub raises : (g : G) (x : V) → meet x (through g x) ≡ x
  raises = l.through_raises

  pub left_raises : (g : G) (x y : V) → meet x (meet (through g x) y) ≡ meet x y
  left_raises g x y = sym (l.meet_assoc x (through g x) y) ∙ ap (λ t. meet t y) (l.through_raises g x)

  pub opens : (x : V) → through a.open_gate x ≡ x
  opens = l.through_open

  pub shuts : (x : V) → through a.shut_gate x ≡ top
  shuts = l.through_shut

  pub at_top : (g : G) → through g top ≡ top
  at_top = l.through_top

  pub at_series : (g h : G) (x : V) → through (a.series g h) x ≡ through h (through g x)
  at_series = l.through_series

  pub at_either : (g h : G) (x : V) → through (a.either g h) x ≡ meet (through g x) (through h x)
  at_either = l.through_either

  pub at_meet : (g : G) (x y : V) → through g (meet x y) ≡ meet (through g x) (through g y)
  at_meet = l.through_meet

  pub swaps : (g h : G) (x : V) → through h (through g x) ≡ through g (through h x)
  swaps = l.through_swap

pub ruleset laws = (raises, left_raises, at_series, at_either, at_meet, at_top, opens, shuts, idem, left_idem, unit, assoc, comm, left_comm)

-- puts gates into one order, for an equation between two orders: simp (sorted, laws, l)
pub ruleset sorted = (swaps)
