-- The bytes that a sweep of the dead variables gives list the dead steps.
use Rattle.std.proofs.Common.{◌≡◌, ℕ, ◌<◌, ◌≤◌, true, eqb, ◌⊎◌, ◌↔◌, List, [], ◌∷◌, length, get_or, sym, refl, ap, ◌∙◌, subst, eq-eqb, eqb-true}
use mathlib.Core.Bool.{or-false}
use borrow.Author.Tests.{clash}
use Rattle.plan.specs.declared.node.Direction.TheVariants.{Backward}
use Rattle.plan.specs.declared.node.Node.{Node}
use Rattle.plan.specs.declared.node.Node.TheVariants.{Step, Fork}
use Rattle.plan.specs.declared.statement.Statement.{Statement}
use Rattle.plan.specs.declared.statement.Statement.TheVariants.{Idle, Wait, Set, Copy, Send, Probe, Add, Sub, Min, Max}
use Rattle.std.proofs.lemmas.Bool.{or_left}
use Rattle.plan.specs.Drawn.{Drawn, node_at, Ranged}
use Rattle.plan.specs.Paths.{Whole}
use Rattle.plan.specs.Statements.{assigns}
use Rattle.bitset.specs.declared.bits.Bits.{Bits}
use Rattle.bitset.specs.Bits.{bit, every}
use Rattle.expressions.specs.Variables.{among}
use Rattle.sweep.specs.Swept.{ValuesMeet}
use Rattle.report.specs.Listing.{listed_in, flag, Filled}
use Rattle.runs.specs.Runs.{Run}
use Rattle.report.specs.Unread.{assigned_by, bit_among, Assigns, Unread, DeadStep, DeadSteps, ListsDead}
use Rattle.report.proofs.Ranges.{node_assigns_low}
use Rattle.report.proofs.DeadBits.{dead, unkept, meet_unread}
use Rattle.report.proofs.Listed.{flag_either, flag_one}

-- a step assigns at most one variable
one_bit : (x : Bits) (w v : ℕ) → among v (w ∷ []) ≡ true → bit_among x (w ∷ []) ≡ bit v x.word
one_bit x w v h = ap (λ (k : ℕ). bit k x.word) (eqb-true w v (sym (or-false (eqb w v)) ∙ h))

step_bit : (x : Bits) (v : ℕ) (s : Statement) → among v (assigns s) ≡ true → bit_among x (assigns s) ≡ bit v x.word
step_bit x v Idle h = absurd (clash h)
step_bit x v Wait h = absurd (clash h)
step_bit x v (Set a c) h = one_bit x a v h
step_bit x v (Copy a b) h = one_bit x a v h
step_bit x v (Send a) h = absurd (clash h)
step_bit x v (Probe a q) h = one_bit x a v h
step_bit x v (Add a b c) h = one_bit x a v h
step_bit x v (Sub a b c) h = one_bit x a v h
step_bit x v (Min a b c) h = one_bit x a v h
step_bit x v (Max a b c) h = one_bit x a v h

node_bit : (x : Bits) (v : ℕ) (n : Node) → among v (assigned_by n) ≡ true → bit_among x (assigned_by n) ≡ bit v x.word
node_bit x v (Step r s) h = step_bit x v s h
node_bit x v (Fork r b k) h = absurd (clash h)

module _ (p : Drawn) (ranged : Ranged p) (whole : Whole p) (kept : ℕ) (vs : List Bits) (meets : ValuesMeet dead p Backward (unkept kept) vs) (before after : List ℕ)
    (filled : Filled 0 (λ n. flag (bit_among (get_or vs n every) (assigned_by (node_at p n)))) (length p.nodes) before after) (room : length p.nodes ≤ length before) where
  listed_bit : (n : ℕ) → n < length p.nodes → listed_in after n ≡ bit_among (get_or vs n every) (assigned_by (node_at p n))
  listed_bit n l = ap (λ (b : ℕ). eqb b 1) (filled.front n l) ∙ flag_one (bit_among (get_or vs n every) (assigned_by (node_at p n)))

  by_variable : (n v : ℕ) → n < length p.nodes → Assigns p v n → (listed_in after n ≡ true) ↔ ((w : List ℕ) → Run p Backward n w → Unread p v kept w)
  by_variable n v l a =
      let low : v < 16 = node_assigns_low (node_at p n) v (ranged n l) a in
      let is : listed_in after n ≡ bit v (get_or vs n every).word = listed_bit n l ∙ node_bit (get_or vs n every) v (node_at p n) a in
      let m = meet_unread v low p kept (meets n l) in
      (λ q. m.0 (sym is ∙ q), λ all. is ∙ m.1 all)

  -- a step that is listed assigns something
  listed_step : (n : ℕ) → n < length p.nodes → (vs' : List ℕ) → assigned_by (node_at p n) ≡ vs' → listed_in after n ≡ true → DeadStep p kept n
  listed_step n l [] is on = absurd (clash (sym (listed_bit n l ∙ ap (bit_among (get_or vs n every)) is) ∙ on))
  listed_step n l (v ∷ more) is on = let a : Assigns p v n = ap (among v) is ∙ or_left (eqb v v) (among v more) (eq-eqb v v refl) in (v, a, (by_variable n v l a).0 on)

  dead_steps : DeadSteps p kept (listed_in after)
  dead_steps n l = (listed_step n l (assigned_by (node_at p n)) refl, λ r. (by_variable n r.0 l r.1).1 r.2)

  pub lists_dead : ListsDead p kept before after
  lists_dead = record {
    whole = whole;
    room = room;
    flags = λ n l. subst (λ (b : ℕ). (b ≡ 0) ⊎ (b ≡ 1)) (sym (filled.front n l)) (flag_either (bit_among (get_or vs n every) (assigned_by (node_at p n))));
    kept_rest = filled.kept;
    dead = dead_steps;
  }
