-- A meet of pairs is a pair of meets.
use Rattle.std.proofs.Common.{◌≡◌, ℕ, List, [], ◌∷◌, sym, refl, ap, ◌∙◌, subst, ap₂}
use Rattle.plan.specs.declared.node.Node.{Node}
use Rattle.plan.specs.declared.node.Node.TheVariants.{Step, Fork}
use Rattle.plan.specs.Drawn.{Drawn, node_at}
use Rattle.pairs.specs.declared.pair.Pair.{Pair}
use Rattle.kinds.specs.Effects.{act, Below, IsMeet}
use Rattle.kinds.specs.Kinds.{Algebra}
use Rattle.pairs.specs.Pairs.{side, paired}
use Rattle.runs.specs.Actions.{run, of_node, steps_of}

-- the meet of values that are told in another way
meet_as : {V G X : Type 0} (a : Algebra V G) {member : X → Type 0} {f g : X → V} {v : V} → ((x : X) → f x ≡ g x) → IsMeet a member f v → IsMeet a member g v
meet_as a {v = v} e m = record {
  lower = λ x h. subst (Below a v) (e x) (m.lower x h);
  greatest = λ z all. m.greatest z (λ x h. subst (Below a z) (sym (e x)) (all x h));
}

module _ {V W G H : Type 0} (a : Algebra V G) (b : Algebra W H) where
  meet_left : {X : Type 0} {member : X → Type 0} {value : X → Pair V W} {v : Pair V W} → IsMeet (paired a b) member value v → IsMeet a member (λ x. (value x).left) v.left
  meet_left {value = value} {v = v} m = record {
    lower = λ x h. record { is = ap (λ (y : Pair V W). y.left) (m.lower x h).is };
    greatest = λ z all. record {
      is = ap (λ (y : Pair V W). y.left) (m.greatest (side z v.right) (λ x h. record { is = ap₂ side (all x h).is (ap (λ (y : Pair V W). y.right) (m.lower x h).is) })).is;
    };
  }

  meet_right : {X : Type 0} {member : X → Type 0} {value : X → Pair V W} {v : Pair V W} → IsMeet (paired a b) member value v → IsMeet b member (λ x. (value x).right) v.right
  meet_right {value = value} {v = v} m = record {
    lower = λ x h. record { is = ap (λ (y : Pair V W). y.right) (m.lower x h).is };
    greatest = λ z all. record {
      is = ap (λ (y : Pair V W). y.right) (m.greatest (side v.left z) (λ x h. record { is = ap₂ side (ap (λ (y : Pair V W). y.left) (m.lower x h).is) (all x h).is })).is;
    };
  }

  node_left : (n : ℕ) (o : Node) (x : Pair V W) → (act (paired a b) (of_node (paired a b) n o) x).left ≡ act a (of_node a n o) x.left
  node_left n (Step r s) x = refl
  node_left n (Fork r k c) x = refl

  node_right : (n : ℕ) (o : Node) (x : Pair V W) → (act (paired a b) (of_node (paired a b) n o) x).right ≡ act b (of_node b n o) x.right
  node_right n (Step r s) x = refl
  node_right n (Fork r k c) x = refl

  module _ (p : Drawn) where
    run_left : (w : List ℕ) (x : Pair V W) → (run (paired a b) (steps_of (paired a b) p) w x).left ≡ run a (steps_of a p) w x.left
    run_left [] x = refl
    run_left (n ∷ w) x = run_left w (act (paired a b) (steps_of (paired a b) p n) x) ∙ ap (run a (steps_of a p) w) (node_left n (node_at p n) x)

    run_right : (w : List ℕ) (x : Pair V W) → (run (paired a b) (steps_of (paired a b) p) w x).right ≡ run b (steps_of b p) w x.right
    run_right [] x = refl
    run_right (n ∷ w) x = run_right w (act (paired a b) (steps_of (paired a b) p n) x) ∙ ap (run b (steps_of b p) w) (node_right n (node_at p n) x)

    -- what two kinds find side by side, each finds alone
    pub left_meet : {member : List ℕ → Type 0} {start v : Pair V W} → IsMeet (paired a b) member (λ w. run (paired a b) (steps_of (paired a b) p) w start) v
        → IsMeet a member (λ w. run a (steps_of a p) w start.left) v.left
    left_meet {start = start} m = meet_as a (λ w. run_left w start) (meet_left m)

    pub right_meet : {member : List ℕ → Type 0} {start v : Pair V W} → IsMeet (paired a b) member (λ w. run (paired a b) (steps_of (paired a b) p) w start) v
        → IsMeet b member (λ w. run b (steps_of b p) w start.right) v.right
    right_meet {start = start} m = meet_as b (λ w. run_right w start) (meet_right m)
