-- What a kind of fact is: its operations, and the laws that they keep.
use Rattle.std.specs.Prelude.{◌≡◌, ℕ, ◌<◌, ◌⊎◌}
use Rattle.plan.specs.declared.statement.Statement.{Statement}
use Rattle.kinds.specs.declared.effect.Effect.{Effect}

-- the operations of a kind with values V and gates G
pub record Algebra (V G : Type 0) : Type 0 where
  pub meet : V → V → V
  pub top : V
  pub open_gate : G
  pub shut_gate : G
  pub series : G → G → G
  pub either : G → G → G
  pub through : G → V → V
  pub rank : V → ℕ
  pub gate_rank : G → ℕ
  pub effect : ℕ → Statement → Effect G V

pub record Laws {V G : Type 0} (a : Algebra V G) : Type 0 where
  -- meet is associative, commutative and idempotent, and the top adds nothing
  pub meet_assoc : (x y z : V) → a.meet (a.meet x y) z ≡ a.meet x (a.meet y z)
  pub meet_comm : (x y : V) → a.meet x y ≡ a.meet y x
  pub meet_idem : (x : V) → a.meet x x ≡ x
  pub meet_top : (x : V) → a.meet x a.top ≡ x
  -- what the open gate, the shut gate and any gate at the top leave
  pub through_open : (x : V) → a.through a.open_gate x ≡ x
  pub through_shut : (x : V) → a.through a.shut_gate x ≡ a.top
  pub through_top : (g : G) → a.through g a.top ≡ a.top
  -- gates in series act one after the other, in either order
  pub through_series : (g h : G) (x : V) → a.through (a.series g h) x ≡ a.through h (a.through g x)
  pub through_swap : (g h : G) (x : V) → a.through h (a.through g x) ≡ a.through g (a.through h x)
  pub through_either : (g h : G) (x : V) → a.through (a.either g h) x ≡ a.meet (a.through g x) (a.through h x)
  pub through_meet : (g : G) (x y : V) → a.through g (a.meet x y) ≡ a.meet (a.through g x) (a.through g y)
  -- a gate only raises a value
  pub through_raises : (g : G) (x : V) → a.meet x (a.through g x) ≡ x
  -- what a meet changes it lowers in rank
  pub meet_falls : (x y : V) → (a.meet x y ≡ x) ⊎ (a.rank (a.meet x y) < a.rank x)
  pub either_falls : (g h : G) → (a.either g h ≡ g) ⊎ (a.gate_rank (a.either g h) < a.gate_rank g)
