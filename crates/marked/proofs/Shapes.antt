-- The plans of the table: the base with other statements, and a step that leads to itself. They are whole, and these runs reach their nodes.
use Rattle.std.proofs.Common.{◌≡◌, ℕ, zero, suc, ◌<◌, [], ◌∷◌, negsuc, is_some, Some, None, sym, refl, ap, arith, lit<}
use Prim.{Unit}
use borrow.Author.Tests.{clash}
use Rattle.plan.specs.declared.statement.Statement.{Statement}
use Rattle.plan.specs.declared.statement.Statement.TheVariants.{Set, Probe}
use Rattle.plan.specs.declared.node.Node.TheVariants.{Step, Fork}
use Rattle.plan.specs.declared.node.Ends.{Ends}
use Rattle.plan.specs.declared.node.Direction.{Direction}
use Rattle.plan.specs.declared.node.Direction.TheVariants.{Forward, Backward}
use Rattle.plan.specs.Drawn.{Drawn, ends_at}
use Rattle.plan.specs.Paths.{Path.stay, Path.go, Reached, Leaves, Whole}
use Rattle.runs.specs.Words.{Shuffle, Shuffle.left, Shuffle.right, Way, Way.start, Written.step, Written.fork, Full, Full.full, Woven}
use Rattle.runs.specs.Runs.{Begun, Approach.direct, Approach.inside, Nearing.first, Run}

-- a row of proofs
infixr 20 ◌and◌
pub ◌and◌ : {A B : Type 0} → A → B → A × B
◌and◌ x y = (x, y)

-- Q holds of each number below k, the lowest first
abbrev pub Each : (ℕ → Type 0) → ℕ → Type 0
Each Q zero = Unit {0}
Each Q (suc k) = Q 0 × Each (λ n. Q (suc n)) k

pub each : (Q : ℕ → Type 0) (k : ℕ) → Each Q k → (n : ℕ) → n < k → Q n
each Q zero h n l = absurd (omega arith)
each Q (suc k) h zero l = h.0
each Q (suc k) h (suc n) l = each (λ m. Q (suc m)) k h.1 n (omega arith)

named : {e : Ends} → Some e ≡ None → ⊥
named h = clash (sym (ap is_some h))

-- ---- the base, with any statements behind the fork, in the one branch, and in the other

module _ (behind one two other : Statement) where
  abbrev pub varied : Drawn
  varied = record {
    nodes = Step 0 (Set 2 (negsuc 3)) ∷ Fork 0 1 2 ∷ Step 0 behind ∷ Step 1 one ∷ Step 1 two ∷ Step 2 other ∷ [];
    arcs = record { from = 0; to = 1 } ∷ record { from = 1; to = 2 } ∷ record { from = 3; to = 4 } ∷ [];
    ends = Some (record { first = 0; last = 2 }) ∷ Some (record { first = 3; last = 4 }) ∷ Some (record { first = 5; last = 5 }) ∷ [];
  }

  pub varied_whole : Whole varied
  varied_whole = record {
    ended = each (λ r. ends_at varied r ≡ None → ⊥) 3 (named and named and named and tt);
    reached = each (Reached varied Forward) 6 (
        (_, refl, stay) and
        (_, refl, go stay (0, lit< tt, refl)) and
        (_, refl, go (go stay (0, lit< tt, refl)) (1, lit< tt, refl)) and
        (_, refl, stay) and
        (_, refl, go stay (2, lit< tt, refl)) and
        (_, refl, stay) and
        tt);
    leaves = each (Leaves varied) 6 (
        (_, refl, go (go stay (0, lit< tt, refl)) (1, lit< tt, refl)) and
        (_, refl, go stay (1, lit< tt, refl)) and
        (_, refl, stay) and
        (_, refl, go stay (2, lit< tt, refl)) and
        (_, refl, stay) and
        (_, refl, stay) and
        tt);
  }

  -- the other branch is one step
  other_full : (d : Direction) → Full varied d 2 (5 ∷ [])
  other_full Forward = full (start (_, refl, refl)) (_, refl, refl) (step (lit< tt, refl))
  other_full Backward = full (start (_, refl, refl)) (_, refl, refl) (step (lit< tt, refl))

  -- nothing of it has run, or all of it
  other_still : (d : Direction) → Begun varied d (2 ∷ []) []
  other_still d = Begun.more {u = []} (record { rest = 5 ∷ []; whole = other_full d }) Begun.none Shuffle.none

  other_over : (d : Direction) → Begun varied d (2 ∷ []) (5 ∷ [])
  other_over d = Begun.more {u = 5 ∷ []} (record { rest = []; whole = other_full d }) Begun.none (left Shuffle.none)

  -- the one branch, and then the other
  woven : (d : Direction) (m n : ℕ) → Full varied d 1 (m ∷ n ∷ []) → Woven varied d (1 ∷ 2 ∷ []) (m ∷ n ∷ 5 ∷ [])
  woven d m n h = Woven.more h (Woven.more (other_full d) Woven.none (left Shuffle.none)) (left (left (right Shuffle.none)))

  -- runs from the start

  to_fork : Way varied Forward 0 1 (0 ∷ [])
  to_fork = Way.go (start (_, refl, refl)) (step (lit< tt, refl)) (0, lit< tt, refl)

  to_two : Way varied Forward 1 4 (3 ∷ [])
  to_two = Way.go (start (_, refl, refl)) (step (lit< tt, refl)) (2, lit< tt, refl)

  pub run_one : Run varied Forward 3 (0 ∷ [])
  run_one = inside to_fork (lit< tt, refl, refl) (first (direct (start (_, refl, refl))) (other_still Forward) Shuffle.none)

  pub run_one_late : Run varied Forward 3 (0 ∷ 5 ∷ [])
  run_one_late = inside to_fork (lit< tt, refl, refl) (first (direct (start (_, refl, refl))) (other_over Forward) (right Shuffle.none))

  pub run_two_late : Run varied Forward 4 (0 ∷ 3 ∷ 5 ∷ [])
  run_two_late = inside to_fork (lit< tt, refl, refl) (first (direct to_two) (other_over Forward) (left (right Shuffle.none)))

  pub run_behind : Run varied Forward 2 (0 ∷ 3 ∷ 4 ∷ 5 ∷ [])
  run_behind = direct (Way.go to_fork (fork (lit< tt, refl, refl) (woven Forward 3 4 (full to_two (_, refl, refl) (step (lit< tt, refl))))) (1, lit< tt, refl))

  -- runs from the end back

  back_to_fork : Way varied Backward 0 1 (2 ∷ [])
  back_to_fork = Way.go (start (_, refl, refl)) (step (lit< tt, refl)) (1, lit< tt, refl)

  back_to_one : Way varied Backward 1 3 (4 ∷ [])
  back_to_one = Way.go (start (_, refl, refl)) (step (lit< tt, refl)) (2, lit< tt, refl)

  pub back_two : Run varied Backward 4 (2 ∷ [])
  back_two = inside back_to_fork (lit< tt, refl, refl) (first (direct (start (_, refl, refl))) (other_still Backward) Shuffle.none)

  pub back_one_late : Run varied Backward 3 (2 ∷ 4 ∷ 5 ∷ [])
  back_one_late = inside back_to_fork (lit< tt, refl, refl) (first (direct back_to_one) (other_over Backward) (left (right Shuffle.none)))

  pub back_start : Run varied Backward 0 (2 ∷ 4 ∷ 3 ∷ 5 ∷ [])
  back_start = direct (Way.go back_to_fork (fork (lit< tt, refl, refl) (woven Backward 4 3 (full back_to_one (_, refl, refl) (step (lit< tt, refl))))) (0, lit< tt, refl))

-- ---- a step that may be repeated

abbrev pub loop_plan : Drawn
loop_plan = record { nodes = Step 0 (Probe 0 1) ∷ []; arcs = record { from = 0; to = 0 } ∷ []; ends = Some (record { first = 0; last = 0 }) ∷ [] }

pub loop_whole : Whole loop_plan
loop_whole = record {
  ended = each (λ r. ends_at loop_plan r ≡ None → ⊥) 1 (named, tt);
  reached = each (Reached loop_plan Forward) 1 ((_, refl, stay), tt);
  leaves = each (Leaves loop_plan) 1 ((_, refl, stay), tt);
}

pub run_first : Run loop_plan Forward 0 []
run_first = direct (start (_, refl, refl))
